-- `labels::choice` meets its contract. The invariant: the best so far is the least of the candidates passed.
use mathlib.Core.Path.{◌∙◌, ap}
use mathlib.Core.List.{List}
use Prim.Native.Nat.{ℕ, suc, ◌<◌, suc-le-suc}
use Rattle.std.proofs.Common.{rules}
use Rattle.finite.specs.Sum.{count}
use Rattle.finite.specs.Sets.{has}
use Rattle.finite.proofs.Sum.{count-bound}
use Rattle.finite.proofs.Sets.{without_in, set_of_in}
use Rattle.nodes.specs.Limits.{max_nodes}
use Rattle.nodes.specs.Members.{members}
use Rattle.nodes.proofs.Words.{lowest_in}
use Rattle.nodes.proofs.Members.{members-lt}
use Rattle.network.specs.Table.{edge_of}
use Rattle.labels.specs.Links.{choice_by}
use Rattle.labels.proofs.Better.{gone, known, known-better, known-node, searching_none, searching_more, searching_all}
use Rattle.labels.proofs.choice.Goals as goal

degree-low : (t : List ℕ) (u : ℕ) → count max_nodes (edge_of t u) < suc max_nodes
degree-low t u = suc-le-suc (count-bound max_nodes (edge_of t u))

pub loop-v-init : goal.loop-v-init
unfolding known
loop-v-init c =
    rw (c.into_iter-v-iterator.ensures.into_iter_gives, c.each-v-items.ensures)
    (searching_none max_nodes (suc max_nodes) _ _ (degree-low _) (members-lt _ c.ranges.w.fits) (λ u. gone _ _ _ u), λ u t. t)

pub better_of-best-requires : goal.better_of-best-requires
better_of-best-requires c =
    let i = c.loop-v.invariant in
    let s = c.in-Some.ensures.steps in
    i.1 _ (ap (has (members c.loop-v.v-iterator.left)) s.1 ∙ lowest_in max_nodes _ i.0.word s.0)

pub loop-v-preserved : goal.loop-v-preserved
loop-v-preserved c =
    let i = c.loop-v.invariant in
    let s = c.in-Some.ensures.steps in
    let t : List ℕ = c.args.t.now in (
      searching_more max_nodes (suc max_nodes) _ _ (degree-low t) i.0 s.0 s.1 s.2
          (ap (known (suc max_nodes) max_nodes) c.better_of-best.ensures ∙ known-better (suc max_nodes) max_nodes _ _ _ (degree-low t _) _),
      λ u h. i.1 u (without_in _ _ u (set_of_in max_nodes _ s.2 u h)),
    )

pub returns : goal.returns
unfolding choice_by
returns c =
    known-node (suc max_nodes) max_nodes c.loop-v.best c.map_or.ensures (λ b p. search rules)
    ∙ searching_all max_nodes (suc max_nodes) _ _ (degree-low _) c.loop-v.invariant.0 c.in-None.ensures.steps.0
