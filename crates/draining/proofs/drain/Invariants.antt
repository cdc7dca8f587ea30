-- `draining::drain` meets its contract, and ends: each pick leaves one move less to make of demand 3's sum.
use Prim.Native.Nat.{◌-◌}
use Rattle.draining.specs.Drained.{sum_of}
use Rattle.draining.proofs.Running.{Running}
use Rattle.draining.proofs.drain.Given as goal

abbrev pub invariant-loop-last : goal.invariant-loop-last
invariant-loop-last l = Running l.image l.list l.seed l.next l.last

abbrev pub decreases-loop-last : goal.decreases-loop-last
decreases-loop-last l = sum_of l.image l.list - l.last.moves
