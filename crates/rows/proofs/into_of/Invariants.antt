-- `rows::into_of` meets its contract. The invariant: the nodes below v have entered.
use Rattle.rows.proofs.Into.{Gathered}
use Rattle.rows.proofs.into_of.Given as goal

abbrev pub invariant-loop-v : goal.invariant-loop-v
invariant-loop-v l = Gathered l.ways l.from l.v
