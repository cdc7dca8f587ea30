-- RULES 6.1: what stands in the contents, and when they are in order. An image is a list of bytes.
use Rattle.std.specs.Prelude.{Bool, true, false, Option, Some, None, List, ℕ, zero, suc, ◌+◌, ◌*◌, ◌-◌, leb, length, get_or, take, drop}
use Rattle.finite.specs.Truth.{◌&◌, same, below}
use Rattle.finite.specs.Search.{all}
use Rattle.format.specs.Limits.{max_image}
use Rattle.format.specs.declared.Entry.{Entry}

-- RULES 6.1: "16 bits, low byte first"
abbrev pub number_at : List ℕ → ℕ → ℕ
number_at b i = get_or b i 0 + 256 * get_or b (i + 1) 0

-- RULES 6.1: "An entry has 6 bytes: kind, zero, offset of the body, length of the body"; entries are numbered from 0
abbrev pub kind_at : List ℕ → ℕ → ℕ
kind_at b i = get_or b (2 + 6 * i) 0

abbrev pub second_at : List ℕ → ℕ → ℕ
second_at b i = get_or b (3 + 6 * i) 0

abbrev pub offset_at : List ℕ → ℕ → ℕ
offset_at b i = number_at b (4 + 6 * i)

abbrev pub length_at : List ℕ → ℕ → ℕ
length_at b i = number_at b (6 + 6 * i)

abbrev pub stored_at : List ℕ → ℕ → Entry
stored_at b i = record { kind = kind_at b i; second = second_at b i; offset = offset_at b i; length = length_at b i }

-- RULES 6.3: "A step answers that entry's kind, second byte, offset and length as they are stored"; "Where the image has no byte 1, where byte 1 is
-- not above the number, or where the image ends before the entry's sixth byte, it answers none"
unfoldable pub entry_of : List ℕ → ℕ → Option Entry
entry_of b i =
    elim (below 1 (length b) & below i (get_or b 1 0) & leb (8 + 6 * i) (length b)) [
      | true ↦ Some (stored_at b i)
      | false ↦ None
    ]

-- RULES 6.1: "Bodies follow in the order of their entries without a gap, the first directly behind the contents": where body i of k begins
unfoldable pub begin_of : List ℕ → ℕ → ℕ → ℕ
begin_of b k zero = 2 + 6 * k
begin_of b k (suc i) = begin_of b k i + length_at b i

-- entry i is of kind i + 1, its second byte is zero, and its body begins where the one before ends
unfoldable pub fitting : List ℕ → ℕ → ℕ → Bool
fitting b k i = same (kind_at b i) (suc i) & same (second_at b i) 0 & same (offset_at b i) (begin_of b k i)

-- the contents of an image with kinds 1, .., k: byte 0 is 1, byte 1 is k, the entries fit, the last body ends with the image, kind 1 is not shorter than 2,
-- and the image is not over 65,535 bytes
unfoldable pub in_order : List ℕ → ℕ → Bool
in_order b k =
    leb (length b) max_image & same (get_or b 0 0) 1 & same (get_or b 1 0) k & all k (fitting b k) & same (begin_of b k k) (length b)
    & leb 2 (length_at b 0)

-- RULES 6.1: "A links image has kind 1 alone; a full image has kinds 1, 2, 3, 4, in this order."
abbrev pub links_kinds : ℕ
links_kinds = 1

abbrev pub full_kinds : ℕ
full_kinds = 4

-- where the body of kind 1 begins, RULES 6.1: "the first directly behind the contents"
abbrev pub body_start : List ℕ → ℕ
body_start b = 2 + 6 * get_or b 1 0

-- the cabling that it holds, RULES 6.2: "N, a zero byte, then the pairs"
abbrev pub nodes_in : List ℕ → ℕ
nodes_in b = get_or b (body_start b) 0

abbrev pub zero_in : List ℕ → ℕ
zero_in b = get_or b (body_start b + 1) 0

abbrev pub pairs_in : List ℕ → List ℕ
pairs_in b = take (length_at b 0 - 2) (drop (body_start b + 2) b)
