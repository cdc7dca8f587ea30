-- `rows::touching` meets its contract: node by node.
use Rattle.nodes.proofs.Passing.{pass}
use Rattle.nodes.proofs.Members.{members-lt}
use Rattle.rows.proofs.Touched.{touching_none, touching_more, touching_all}
use Rattle.rows.proofs.touching.Goals as goal

pub loop-u-init : goal.loop-u-init
loop-u-init c =
    rw (c.into_iter-u-iterator.ensures.into_iter_gives, c.each-u-items.ensures, c.none-all.ensures) (touching_none _ (members-lt _ c.ranges.set.fits))

pub loop-u-preserved : goal.loop-u-preserved
loop-u-preserved c =
    let i = c.loop-u.invariant in
    touching_more i (pass i.left_word c.next.ensures.steps c.in-Some.is) c.neighbours.ensures c.union-all.ensures

pub returns : goal.returns
returns c = touching_all c.loop-u.invariant c.in-None.ensures.steps.0
