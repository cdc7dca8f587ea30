-- `labels::room` meets its contract: the sum over the links, taken one by one.
use mathlib.Core.List.{List}
use Prim.Native.Nat.{ℕ, ◌-◌}
use Rattle.finite.specs.Sum.{count, sum_if}
use Rattle.nodes.specs.Limits.{max_nodes}
use Rattle.nodes.specs.Members.{members}
use Rattle.network.specs.Table.{edge_of}
use Rattle.labels.proofs.Members.{Summing}
use Rattle.labels.proofs.room.Given as goal

-- what each neighbour adds: its degree minus 1
abbrev pub around : List ℕ → ℕ → ℕ
around t u = count max_nodes (edge_of t u) - 1

abbrev pub invariant-loop-u : goal.invariant-loop-u
invariant-loop-u l = Summing max_nodes (around l.t) (sum_if max_nodes (edge_of l.t l.v) (around l.t)) l.sum (members l.u-iterator.left)
