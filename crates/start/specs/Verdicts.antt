-- What each verdict of start says: an image under read's rules, and then the rows 10 and 11 of RULES 9.1 for its message list, in the order of RULES 9.2.
use Rattle.std.specs.Prelude.{◌≡◌, List, ◌⊎◌, ℕ, ◌/◌, ◌%◌, ◌≤◌, ◌<◌, length, Err, Ok}
use Rattle.refusal.specs.Verdicts.{Verdict}
use Rattle.refusal.specs.declared.Refusal.{Refusal}
use Rattle.refusal.specs.declared.Refusal.TheVariants.{Unknown, Messages}
use Rattle.format.specs.Contents.{nodes_in}
use Rattle.image.specs.Verdicts.{OfEither}
use Rattle.messages.specs.Sizes.{max_list}
use Rattle.messages.specs.Fresh.{source_in, target_in}

-- both ends of pair p are nodes
abbrev pub BothNodes : ℕ → List ℕ → ℕ → Type 0
BothNodes n list p = (source_in list p < n) × (target_in list p < n)

-- 11, RULES 9.1: "the message list of odd length or over 512 bytes"; 10: "a node ≥ N in the list", at the first such pair
pub data OfList (n : ℕ) (list : List ℕ) : Verdict → Type 0 where
  odd : (length list % 2 ≡ 0 → ⊥) → OfList n list (Err Messages)
  over : max_list < length list → OfList n list (Err Messages)
  unknown : (p : ℕ) → length list % 2 ≡ 0 → length list ≤ max_list → p < length list / 2 → (n ≤ source_in list p) ⊎ (n ≤ target_in list p)
      → ((q : ℕ) → q < p → BothNodes n list q) → OfList n list (Err (Unknown p))
  fine : length list % 2 ≡ 0 → length list ≤ max_list → ((p : ℕ) → p < length list / 2 → BothNodes n list p) → OfList n list (Ok tt)

-- RULES 8.2: "an image (under read's rules)", and then the list of messages between its nodes
pub data OfStart (b list : List ℕ) : Verdict → Type 0 where
  of_image : {r : Refusal} → OfEither b (Err r) → OfStart b list (Err r)
  of_list : {v : Verdict} → OfEither b (Ok tt) → OfList (nodes_in b) list v → OfStart b list v
