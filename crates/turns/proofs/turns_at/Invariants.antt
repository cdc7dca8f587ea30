-- `turns::turns_at` meets its contract. The invariant: the sum of d(d-1)/2 over the nodes passed.
use Rattle.turns.proofs.Adding.{Adding}
use Rattle.turns.proofs.turns_at.Given as goal

abbrev pub invariant-loop-v : goal.invariant-loop-v
invariant-loop-v g l = Adding (λ v d. goal.F-post g l.links v d) l.sum l.v
