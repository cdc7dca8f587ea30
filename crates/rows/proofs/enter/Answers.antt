-- `rows::enter` meets its contract: node by node.
use Rattle.nodes.proofs.Passing.{pass}
use Rattle.nodes.proofs.Members.{members-lt}
use Rattle.rows.proofs.Into.{entering_none, entering_more, entering_all}
use Rattle.rows.proofs.enter.Goals as goal

pub loop-u-init : goal.loop-u-init
loop-u-init c =
    rw (c.into_iter-u-iterator.ensures.into_iter_gives, c.each-u-items.ensures)
    (entering_none _ (members-lt _ c.ranges.set.fits) c.requires (λ a. (c.type_inv.from a).fits))

pub loop-u-preserved : goal.loop-u-preserved
loop-u-preserved c =
    let i = c.loop-u.invariant in
    rw c.put.ensures (entering_more i (pass i.left_word c.next.ensures.steps c.in-Some.is) (rw c.neighbours.ensures at c.with-row.ensures))

pub returns : goal.returns
returns c = entering_all c.loop-u.invariant c.in-None.ensures.steps.0
