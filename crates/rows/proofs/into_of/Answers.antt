-- `rows::into_of` meets its contract: node by node.
use Rattle.rows.proofs.Into.{gathered_none, gathered_more, gathered_all}
use Rattle.rows.proofs.into_of.Goals as goal

pub loop-v-init : goal.loop-v-init
loop-v-init c = gathered_none _

pub loop-v-preserved : goal.loop-v-preserved
loop-v-preserved c = gathered_more _ _ c.loop-v.invariant c.neighbours.ensures c.enter.ensures

pub returns : goal.returns
returns c = gathered_all _ _ c.loop-v.invariant c.loop-v-test.false
