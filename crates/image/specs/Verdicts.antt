-- What each verdict on an image says: the table of RULES 9.1, row by row, in the order of RULES 9.2.
use Rattle.std.specs.Prelude.{◌≡◌, List, ◌⊎◌, ℕ, ◌<◌, drop, Err, Ok}
use Rattle.nodes.specs.Limits.{max_nodes}
use Rattle.refusal.specs.Verdicts.{Verdict}
use Rattle.refusal.specs.declared.Refusal.{Refusal}
use Rattle.refusal.specs.declared.Refusal.TheVariants.{Contents, Count, Shape, Differs}
use Rattle.cabling.specs.Verdicts.{Counted, Means}
use Rattle.format.specs.Contents.{links_kinds, full_kinds, nodes_in, zero_in}
use Rattle.format.specs.Order.{InOrder}
use Rattle.format.specs.Bytes.{bodies_from}
use Rattle.image.specs.Image.{bodies_of, cabling_in}

-- 2 to 7, of what kind 1 holds, RULES 9.1: "N not 2 to 64"; "second byte of kind 1 not zero"; else what its cabling is given
pub data KindOne (b : List ℕ) : Verdict → Type 0 where
  count : (nodes_in b < 2) ⊎ (max_nodes < nodes_in b) → KindOne b (Err Count)
  second : Counted (nodes_in b) → (zero_in b ≡ 0 → ⊥) → KindOne b (Err Shape)
  cabling : {v : Verdict} → zero_in b ≡ 0 → Means (cabling_in b) v → KindOne b v

-- 8: kinds 2, 3 and 4 are, RULES 9.1, "what the rules give"
abbrev pub ByTheRules : List ℕ → Type 0
ByTheRules b = bodies_from b 1 3 ≡ drop 1 (bodies_of (cabling_in b))

-- where a call takes the links image alone: 1, RULES 9.1: "contents break 6.1; kinds that the call does not take"
pub data OfLinks (b : List ℕ) : Verdict → Type 0 where
  broken : (InOrder b links_kinds → ⊥) → OfLinks b (Err Contents)
  ordered : {v : Verdict} → InOrder b links_kinds → KindOne b v → OfLinks b v

-- where it takes either image
pub data OfEither (b : List ℕ) : Verdict → Type 0 where
  neither : (InOrder b links_kinds → ⊥) → (InOrder b full_kinds → ⊥) → OfEither b (Err Contents)
  links : {v : Verdict} → InOrder b links_kinds → KindOne b v → OfEither b v
  faulty : {r : Refusal} → InOrder b full_kinds → KindOne b (Err r) → OfEither b (Err r)
  differs : InOrder b full_kinds → KindOne b (Ok tt) → (ByTheRules b → ⊥) → OfEither b (Err Differs)
  full : InOrder b full_kinds → KindOne b (Ok tt) → ByTheRules b → OfEither b (Ok tt)
