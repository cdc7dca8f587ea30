-- The bytes of an image from its bodies: contents, then bodies with no gap. And the bodies of an image from its contents.
use Rattle.std.specs.Prelude.{Bool, true, List, [], ◌∷◌, ◌++◌, map, ℕ, zero, suc, ◌+◌, ◌*◌, ◌/◌, ◌%◌, ◌<◌, length, get_or, take, drop}
use Rattle.finite.specs.Truth.{◌&◌}
use Rattle.finite.specs.Lists.{alike, joined_up}
use Rattle.format.specs.Contents.{offset_at, length_at}

-- each number of the list is a byte: every lent slice of bytes meets it
abbrev pub AllBytes : List ℕ → Type 0
AllBytes b = (i : ℕ) → get_or b i 0 < 256

-- a number as 16 bits, low byte first
abbrev pub low_high : ℕ → List ℕ
low_high x = x % 256 ∷ x / 256 % 256 ∷ []

-- RULES 6.1: "An entry has 6 bytes: kind, zero, offset of the body, length of the body, the last two of 16 bits, low byte first."
abbrev pub entry_bytes : ℕ → ℕ → ℕ → List ℕ
entry_bytes kind offset size = kind ∷ 0 ∷ low_high offset ++ low_high size

-- the contents entries of bodies of these sizes, the first at an offset, with kinds from `kind` on
unfoldable pub entries_of : ℕ → ℕ → List ℕ → List ℕ
entries_of kind offset [] = []
entries_of kind offset (size ∷ sizes) = entry_bytes kind offset size ++ entries_of (suc kind) (offset + size) sizes

abbrev pub lengths_of : List (List ℕ) → List ℕ
lengths_of bodies = map length bodies

-- RULES 6.1: "Byte 0 is 1. Byte 1 is the number of contents entries."
unfoldable pub image_from : List (List ℕ) → List ℕ
image_from bodies = 1 ∷ length bodies ∷ entries_of 1 (2 + 6 * length bodies) (lengths_of bodies) ++ joined_up bodies

-- the body of entry i, and all k of them from entry i on
abbrev pub body_at : List ℕ → ℕ → List ℕ
body_at b i = take (length_at b i) (drop (offset_at b i) b)

unfoldable pub bodies_from : List ℕ → ℕ → ℕ → List (List ℕ)
bodies_from b i zero = []
bodies_from b i (suc k) = body_at b i ∷ bodies_from b (suc i) k

-- body i of b and those behind it are these, one after the other
unfoldable pub same_bodies : List ℕ → ℕ → List (List ℕ) → Bool
same_bodies b i [] = true
same_bodies b i (body ∷ bodies) = alike (body_at b i) body & same_bodies b (suc i) bodies
