-- `rows::touching` meets its contract. The invariant: the nodes passed have given their words.
use Rattle.nodes.specs.Members.{members}
use Rattle.rows.proofs.Touched.{Touching}
use Rattle.rows.proofs.touching.Given as goal

abbrev pub invariant-loop-u : goal.invariant-loop-u
invariant-loop-u l = Touching l.from (members l.set) (members l.all) (members l.u-iterator.left)
