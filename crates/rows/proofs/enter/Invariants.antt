-- `rows::enter` meets its contract. The invariant: v has entered the words of the nodes passed.
use Rattle.nodes.specs.Members.{members}
use Rattle.rows.proofs.Into.{Entering}
use Rattle.rows.proofs.enter.Given as goal

abbrev pub invariant-loop-u : goal.invariant-loop-u
invariant-loop-u l = Entering l.v (members l.set) l.initial.from l.from (members l.u-iterator.left)
