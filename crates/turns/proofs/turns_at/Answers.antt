-- `turns::turns_at` meets its contract: node by node.
use mathlib.Core.Path.{◌≡◌}
use native.Mathlib.Omega.{arith}
use Rattle.nodes.specs.Limits.{max_nodes}
use Rattle.turns.proofs.Adding.{adding_none, adding_more}
use Rattle.turns.proofs.turns_at.Goals as goal

pub loop-v-init : goal.loop-v-init
loop-v-init g c = adding_none _

pub choose_two-sum-requires : goal.choose_two-sum-requires
choose_two-sum-requires g c = c.requires.few _ _ c.links.ensures

pub overflow_add-sum : goal.overflow_add-sum
overflow_add-sum g c =
    omega (arith, (adding_more c.loop-v.invariant c.links.ensures (c.requires.few _ _ c.links.ensures) c.choose_two-sum.ensures).bound)

pub loop-v-preserved : goal.loop-v-preserved
loop-v-preserved g c = adding_more c.loop-v.invariant c.links.ensures (c.requires.few _ _ c.links.ensures) c.choose_two-sum.ensures

pub returns : goal.returns
returns g c =
    let e : c.loop-v.v ≡ max_nodes = omega arith in
    λ links h. rw (← e) (c.loop-v.invariant.sums links h)
