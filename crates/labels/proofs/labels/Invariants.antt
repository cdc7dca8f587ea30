-- `labels::labels` meets its contract: the loop is the stages, one after the other.
use mathlib.Core.Path.{◌≡◌}
use Prim.Native.Nat.{min}
use Rattle.nodes.specs.Limits.{max_nodes}
use Rattle.nodes.specs.Members.{members}
use Rattle.labels.proofs.Giving.{Giving}
use Rattle.labels.proofs.labels.Given as goal

abbrev pub invariant-loop-k : goal.invariant-loop-k
invariant-loop-k l = record { stage : Giving l.t l.m l.k (members l.w) l.rest l.out; width : l.m ≡ min l.n max_nodes }
