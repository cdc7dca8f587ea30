-- RULES 7.5: what the hop call answers. Labels and tables are any three lists of bytes.
use Rattle.std.specs.Prelude.{◌≡◌, Bool, true, false, List, [], ◌∷◌, ◌⊎◌, ℕ, zero, suc, ◌*◌, ◌≤◌, ◌<◌, min, length, get_or, take, Option, Some, None, Result, Ok, Err}
use Rattle.finite.specs.Truth.{◌&◌, ◌or◌, same, below}
use Rattle.lawful.specs.Turn.{label_in}
use Rattle.lawful.specs.Entry.{none}
use Rattle.nodes.specs.Limits.{max_nodes}
use Rattle.refusal.specs.declared.Refusal.{Refusal}
use Rattle.refusal.specs.declared.Refusal.TheVariants.{Unknown}
use Rattle.hops.specs.declared.Hop.{Hop}
use Rattle.hops.specs.Row.{RowFault, row_known, row_in}

-- what hop answers: the next node and the class to use there, none, or a refusal
abbrev pub HopAnswer : Type 0
HopAnswer = Result (Option Hop) Refusal

abbrev pub Next : ℕ → ℕ → HopAnswer
Next node class = Ok (Some (record { node = node; class = class }))

abbrev pub NoWay : HopAnswer
NoWay = Ok None

-- RULES 7.5: "It reads the byte of that row for the destination."
abbrev pub stored_in : List ℕ → List ℕ → ℕ → ℕ → ℕ → ℕ → ℕ
stored_in free falling n node class destination = get_or (row_in free falling n node class) destination 0

-- RULES 7.5: "Where the node is the destination, the class is the one that the message came with, whatever the labels say. Elsewhere it is falling if the
-- message was falling already or the next node's label is lower than the node's, else free."
unfoldable pub class_after : List ℕ → ℕ → ℕ → ℕ → ℕ → ℕ
class_after labels node class destination next =
    elim (same node destination) [
      | true ↦ class
      | false ↦ elim (same class 1 or below (label_in labels next) (label_in labels node)) [ true ↦ 1 | false ↦ 0 ]
    ]

-- RULES 7.5: "255 answers none, at the destination too. A byte below N is the next node, and hop answers it with the class to use there; any other is refused"
unfoldable pub onward_of : List ℕ → ℕ → ℕ → ℕ → ℕ → ℕ → HopAnswer
onward_of labels n node class destination next =
    elim (same next none) [
      | true ↦ NoWay
      | false ↦ elim (below next n) [ true ↦ Next next (class_after labels node class destination next) | false ↦ Err (Unknown 0) ]
    ]

-- what is lent has no fault: none of the row, a destination below N, and N labels
unfoldable pub hop_known : List ℕ → List ℕ → List ℕ → ℕ → ℕ → ℕ → ℕ → Bool
hop_known labels free falling n node class destination = row_known free falling n node class & below destination n & same (length labels) n

-- RULES 7.5: "Hop is lent the labels too, N bytes, and takes a destination."; refusal 10 where what is lent has a fault
unfoldable pub hop_in : List ℕ → List ℕ → List ℕ → ℕ → ℕ → ℕ → ℕ → HopAnswer
hop_in labels free falling n node class destination =
    elim (hop_known labels free falling n node class destination) [
      | true ↦ onward_of labels n node class destination (stored_in free falling n node class destination)
      | false ↦ Err (Unknown 0)
    ]

-- the same over arrays that hold labels and tables at their front, as a fabric and a drain record do; more than 64 nodes are refused
unfoldable pub hop_within : List ℕ → List ℕ → List ℕ → ℕ → ℕ → ℕ → ℕ → HopAnswer
hop_within labels free falling n node class destination =
    let k : ℕ = min n max_nodes in
    hop_in (take k labels) (take (k * k) free) (take (k * k) falling) n node class destination

-- ---- an answer's parts: whether it names a next node, and that node and the class to use there, both 0 where it names none

abbrev pub has_next : HopAnswer → Bool
has_next (Ok (Some hop)) = true
has_next (Ok None) = false
has_next (Err r) = false

abbrev pub next_in : HopAnswer → ℕ
next_in (Ok (Some hop)) = hop.node
next_in (Ok None) = 0
next_in (Err r) = 0

abbrev pub class_in : HopAnswer → ℕ
class_in (Ok (Some hop)) = hop.class
class_in (Ok None) = 0
class_in (Err r) = 0

-- RULES 7.5: "a message that asks hop at each node, free at first and then with the class that it was answered": the nodes after v, k at the most, until it
-- is at t or is answered no node
unfoldable pub walk_by : (ℕ → ℕ → HopAnswer) → ℕ → ℕ → ℕ → ℕ → List ℕ
walk_by ask t zero class v = []
walk_by ask t (suc k) class v =
    elim (same v t) [
      | true ↦ []
      | false ↦ elim (has_next (ask v class)) [ true ↦ next_in (ask v class) ∷ walk_by ask t k (class_in (ask v class)) (next_in (ask v class)) | false ↦ [] ]
    ]

-- ---- in the words of RULES 7.5 and RULES 9.1

-- refusal 10, RULES 9.1: "a node or destination ≥ N", "labels that are not N bytes, also where 255 is stored; the byte that it reads neither below N nor 255"
pub data HopFault (labels free falling : List ℕ) (n node class destination : ℕ) : Type 0 where
  of_row : RowFault free falling n node class → HopFault labels free falling n node class destination
  no-destination : n ≤ destination → HopFault labels free falling n node class destination
  labels-size : (length labels ≡ n → ⊥) → HopFault labels free falling n node class destination
  no-next : n ≤ stored_in free falling n node class destination → (stored_in free falling n node class destination ≡ none → ⊥)
      → HopFault labels free falling n node class destination

-- the class that a message has after its hop to the node `next`
pub data ClassThen (labels : List ℕ) (node class destination next : ℕ) : ℕ → Type 0 where
  as_it_came : node ≡ destination → ClassThen labels node class destination next class
  is-falling : (node ≡ destination → ⊥) → (class ≡ 1) ⊎ (label_in labels next < label_in labels node) → ClassThen labels node class destination next 1
  is_free : (node ≡ destination → ⊥) → class ≡ 0 → label_in labels node ≤ label_in labels next → ClassThen labels node class destination next 0

-- each answer with its values; a refusal is `Unknown 0`, number 10 at place 0 (refusal/specs/Number)
pub data OfHop (labels free falling : List ℕ) (n node class destination : ℕ) : HopAnswer → Type 0 where
  refused : HopFault labels free falling n node class destination → OfHop labels free falling n node class destination (Err (Unknown 0))
  no_way : (HopFault labels free falling n node class destination → ⊥) → stored_in free falling n node class destination ≡ none
      → OfHop labels free falling n node class destination NoWay
  next : (HopFault labels free falling n node class destination → ⊥) → (stored_in free falling n node class destination ≡ none → ⊥) → {then : ℕ}
      → ClassThen labels node class destination (stored_in free falling n node class destination) then
      → OfHop labels free falling n node class destination (Next (stored_in free falling n node class destination) then)
