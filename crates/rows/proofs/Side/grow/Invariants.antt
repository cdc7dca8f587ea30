-- `Side::grow` meets its contract. The invariant: the nodes passed have joined where a hop leads from them.
use Rattle.nodes.specs.Members.{members}
use Rattle.rows.specs.Steps.{lead_of}
use Rattle.rows.proofs.Joining.{Halving}
use Rattle.rows.proofs.Side.grow.Given as goal

abbrev pub invariant-loop-v : goal.invariant-loop-v
invariant-loop-v l =
    Halving (lead_of l.ways.up l.ways.down (members l.free) (members l.falling)) (members l.initial.self.members) l.initial.self.entries
    (members l.self.members) l.self.entries (members l.v-iterator.left)
