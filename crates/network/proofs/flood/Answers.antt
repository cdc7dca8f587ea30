-- `network::flood` meets its contract. The invariant is the flood over sets, and each turn is one of its visits.
use mathlib.Core.Path.{◌∙◌, ap}
use Prim.Native.Nat.{ℕ}
use native.Mathlib.Omega.{arith}
use Rattle.finite.specs.Sets.{has}
use Rattle.finite.proofs.Sets.{has_0, set_of-has, set_ext}
use Rattle.graph.proofs.Flood.{Visit, flood_none, flood_more, flood_less, flood_all}
use Rattle.graph.proofs.Reach.{reach-lt}
use Rattle.nodes.specs.Limits.{max_nodes}
use Rattle.nodes.specs.Members.{members}
use Rattle.nodes.proofs.Words.{rest_at}
use Rattle.nodes.proofs.Members.{members-lt, some_left, none_left}
use Rattle.network.specs.Table.{edge_of}
use Rattle.network.proofs.Table.{Words, edge-inside}
use Rattle.network.proofs.Visit.{visit}
use Rattle.network.proofs.flood.Goals as goal

-- a turn, as a visit
turn : (c : goal.After-union-front) →
    Visit max_nodes (edge_of c.args.t.now) (has (members c.loop-v.seen)) (has (members c.loop-v.front))
    c.lowest-v.result (has (members c.union-seen.result)) (has (members c.union-front.result))
turn c =
    visit _ _ _ c.loop-v.invariant.2 (some_left c.is_empty.ensures c.loop-v-test.true) c.lowest-v.ensures c.neighbours.ensures
    c.difference-found.ensures c.union-seen.ensures (rest_at max_nodes _ c.lowest-v.ensures c.rest.ensures) c.union-front.ensures

pub loop-v-init : goal.loop-v-init
loop-v-init c = let l = members-lt _ c.ranges.start.fits in (flood_none max_nodes _ _, l, l)

pub loop-v-smaller : goal.loop-v-smaller
loop-v-smaller c = flood_less c.loop-v.invariant.0 (turn c)

pub loop-v-preserved : goal.loop-v-preserved
loop-v-preserved c = (
  flood_more c.loop-v.invariant.0 (turn c),
  omega arith,
  omega arith,
)

pub returns : goal.returns
returns c =
    let inv = c.loop-v.invariant in
    let word : Words c.args.t.now = λ a. (c.type_inv.t a).fits in
    set_ext max_nodes _ _ inv.1
    (flood_all inv.0 (edge-inside _ word) (λ v l. ap (λ (w : ℕ). has w v) (none_left c.is_empty.ensures c.loop-v-test.false) ∙ has_0 v))
    ∙ set_of-has max_nodes _ (reach-lt max_nodes _ _)
