-- `network::strike` meets its contract. The invariant: rows passed have lost v, the others are as they were.
use Rattle.nodes.specs.Members.{members}
use Rattle.finite.proofs.Filling.{Filling}
use Rattle.network.proofs.Table.{masked}
use Rattle.network.proofs.strike.Given as goal

abbrev pub invariant-loop-row : goal.invariant-loop-row
invariant-loop-row l = Filling (masked l.initial.t (members l.others)) l.initial.t l.t l.row-index
