-- `network::restrict` meets its contract. The invariant: rows passed are restricted.
use Rattle.finite.specs.Sets.{has, set_of}
use Rattle.graph.specs.Network.{among}
use Rattle.nodes.specs.Limits.{max_nodes}
use Rattle.nodes.specs.Members.{members}
use Rattle.network.specs.Table.{edge_of}
use Rattle.finite.proofs.Filling.{Filling}
use Rattle.network.proofs.restrict.Given as goal

abbrev pub invariant-loop-u : goal.invariant-loop-u
invariant-loop-u l = Filling (λ a. set_of max_nodes (among (has (members l.w)) (edge_of l.t) a)) l.initial.row-items l.row-items l.u
