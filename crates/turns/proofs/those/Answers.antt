-- `turns::those` meets its contract: member by member.
use mathlib.Core.Path.{sym, ◌∙◌}
use Rattle.nodes.proofs.Members.{members-lt}
use Rattle.nodes.proofs.Passing.{pass}
use Rattle.turns.proofs.Sift.{sift_none, sift_takes, sift_passes, sift_all}
use Rattle.turns.proofs.those.Goals as goal

pub loop-u-init : goal.loop-u-init
loop-u-init g c =
    let l = members-lt _ c.ranges.w.fits in
    rw (c.into_iter-u-iterator.ensures.into_iter_gives, c.each-u-items.ensures, c.none-found.ensures) (l, λ test h. sift_none _ _ l)

pub loop-u-preserved-then-passes : goal.loop-u-preserved-then-passes
loop-u-preserved-then-passes g c =
    let i = c.loop-u.invariant in
    let q = pass i.0 c.next.ensures.steps c.in-Some.is in
    (q.word, λ test h. sift_takes _ (i.1 test h) q (sym (h _ _ c.passes.ensures) ∙ c.if-passes.true) _ c.with-found.ensures)

pub loop-u-preserved : goal.loop-u-preserved
loop-u-preserved g c =
    let i = c.loop-u.invariant in
    let q = pass i.0 c.next.ensures.steps c.in-Some.is in
    (q.word, λ test h. sift_passes _ (i.1 test h) q (sym (h _ _ c.passes.ensures) ∙ c.if-passes.false))

pub returns : goal.returns
returns g c = λ test h. sift_all (c.loop-u.invariant.1 test h) c.in-None.ensures.steps.0
