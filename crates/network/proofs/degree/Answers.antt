-- `network::degree` meets its contract: the size of the neighbour word.
use mathlib.Core.Path.{◌∙◌, ap}
use Prim.Native.Nat.{ℕ}
use Rattle.finite.specs.Sum.{count}
use Rattle.finite.specs.Sets.{has}
use Rattle.nodes.specs.Limits.{max_nodes}
use Rattle.network.specs.Table.{edge_of}
use Rattle.network.proofs.degree.Goals as goal

pub returns : goal.returns
unfolding edge_of
returns c = c.size.ensures ∙ ap (λ (w : ℕ). count max_nodes (has w)) c.neighbours.ensures
