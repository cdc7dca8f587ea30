-- `rows::row_of_each` meets its contract. The invariant: the list is filled from the front.
use mathlib.Core.Path.{◌≡◌}
use Prim.Native.Nat.{ℕ}
use Rattle.finite.proofs.Filling.{Filling}
use Rattle.rows.proofs.row_of_each.Given as goal

abbrev pub invariant-loop-v : goal.invariant-loop-v
invariant-loop-v g l =
    (set : ℕ → ℕ) → ((v w : ℕ) → goal.F-post g l.row v w → w ≡ set v) → Filling set l.initial.place-items l.place-items l.v
