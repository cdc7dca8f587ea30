-- `lines::fields` meets its contract: a field more, and all fields.
use Rattle.std.proofs.Common.{arith, rules}
use Rattle.std.proofs.lemmas.List.{length-map}
use Rattle.lines.proofs.Whole.{fields-next-in, fields-end}
use Rattle.lines.proofs.fields.Goals as goal

pub loop-x-preserved : goal.loop-x-preserved
loop-x-preserved g c =
    (search rules, λ n e. fields-next-in n _ (c.loop-x.invariant.1 n e) (omega arith) c.x-item.is (rw (e _ _ c.into.ensures) at c.field.ensures.laid))

pub returns-clause-laid : goal.returns-clause-laid
returns-clause-laid g c = λ n e. fields-end (c.loop-x.invariant.1 n e) (rw length-map (omega arith))
