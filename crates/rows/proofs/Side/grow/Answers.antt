-- `Side::grow` meets its contract: node by node.
use mathlib.Core.Path.{◌∙◌}
use native.Mathlib.Omega.{arith}
use Rattle.nodes.proofs.Passing.{pass}
use Rattle.rows.proofs.Joining.{halving_none, halving_joins, halving_stays, halving_all}
use Rattle.rows.proofs.Side.grow.Goals as goal

-- the array that the struct holds has its length from what owning the struct tells
pub loop-v-init : goal.loop-v-init
loop-v-init c =
    rw c.into_iter-v-iterator.ensures.into_iter_gives
    (halving_none _ _ _ _ _ _ (omega arith) (omega arith) c.requires (c.each-v-items.ensures ∙ c.difference.ensures))

pub bounds-self-v : goal.bounds-self-v
bounds-self-v c = omega (arith, (pass c.loop-v.invariant.left_word c.next.ensures.steps c.in-Some.is).node)

pub loop-v-preserved-then-u-lt-MAX_NODES : goal.loop-v-preserved-then-u-lt-MAX_NODES
loop-v-preserved-then-u-lt-MAX_NODES c =
    let i = c.loop-v.invariant in
    halving_joins i (pass i.left_word c.next.ensures.steps c.in-Some.is) c.lead-u.ensures c.if-u-lt-MAX_NODES.true c.with-self.ensures

pub loop-v-preserved : goal.loop-v-preserved
loop-v-preserved c =
    let i = c.loop-v.invariant in
    halving_stays i (pass i.left_word c.next.ensures.steps c.in-Some.is) c.lead-u.ensures c.if-u-lt-MAX_NODES.false

pub returns : goal.returns
returns c = halving_all _ _ _ _ _ c.loop-v.invariant c.in-None.ensures.steps.0
