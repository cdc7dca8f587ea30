-- `labels::choice` meets its contract. The invariant: the best so far is the least of the candidates passed.
use mathlib.Core.Path.{◌≡◌}
use mathlib.Core.Bool.{true}
use Prim.Native.Nat.{ℕ, suc}
use Rattle.finite.specs.Sum.{count}
use Rattle.finite.specs.Sets.{has}
use Rattle.nodes.specs.Limits.{max_nodes}
use Rattle.nodes.specs.Members.{members}
use Rattle.network.specs.Table.{edge_of}
use Rattle.labels.specs.Links.{candidate_by}
use Rattle.labels.proofs.Better.{Searching, known}
use Rattle.labels.proofs.choice.Given as goal

abbrev pub invariant-loop-v : goal.invariant-loop-v
invariant-loop-v l =
    Searching max_nodes (suc max_nodes) (λ u. count max_nodes (edge_of l.t u)) (candidate_by max_nodes (edge_of l.t) (has (members l.w)))
    (members l.v-iterator.left) (known (suc max_nodes) max_nodes l.best)
    × ((u : ℕ) → has (members l.v-iterator.left) u ≡ true → has (members l.w) u ≡ true)
