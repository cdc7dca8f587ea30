-- `cabling::Cabling::link_fault` meets its contract. The invariant: the pairs passed are fine.
use mathlib.Core.Path.{◌≡◌}
use Prim.Native.Nat.{ℕ, ◌-◌, ◌/◌, ◌≤◌, ◌<◌}
use lib.ListN.{length}
use Rattle.cabling.specs.Cabling.{cabled}
use Rattle.cabling.specs.Verdicts.{PairFine}
use Rattle.cabling.proofs.Cabling.link_fault.Given as goal

abbrev pub invariant-loop-p : goal.invariant-loop-p
invariant-loop-p l = ((q : ℕ) → q < l.p → PairFine (cabled l.self.nodes l.self.pairs.now) q) × (l.p-end ≡ length l.self.pairs.now / 2) × (l.p ≤ l.p-end)

abbrev pub decreases-loop-p : goal.decreases-loop-p
decreases-loop-p l = l.p-end - l.p
