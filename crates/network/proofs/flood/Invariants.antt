-- `network::flood` meets its contract. The invariant is the flood over sets, and each turn is one of its visits.
use Prim.Native.Nat.{◌^◌, ◌<◌}
use Rattle.finite.specs.Sets.{has}
use Rattle.graph.proofs.Flood.{Flooding, unvisited}
use Rattle.nodes.specs.Limits.{max_nodes}
use Rattle.nodes.specs.Members.{members}
use Rattle.network.specs.Table.{edge_of}
use Rattle.network.proofs.flood.Given as goal

abbrev pub invariant-loop-v : goal.invariant-loop-v
invariant-loop-v l =
    Flooding max_nodes (edge_of l.t) (has (members l.start)) (has (members l.seen)) (has (members l.front)) × (members l.seen < 2 ^ max_nodes)
    × (members l.front < 2 ^ max_nodes)

abbrev pub decreases-loop-v : goal.decreases-loop-v
decreases-loop-v l = unvisited max_nodes (has (members l.seen)) (has (members l.front))
