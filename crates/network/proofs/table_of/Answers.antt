-- `network::table_of` meets its contract: pair by pair.
use mathlib.Core.Path.{◌∙◌}
use native.Mathlib.Omega.{arith}
use Rattle.std.proofs.lemmas.List.{length_push}
use Rattle.network.proofs.Links.{linking_none, linking_more, linking_all, pairs_none, pairs_more, pairs_all, first, second}
use Rattle.network.proofs.table_of.Goals as goal

pub loop-pair-init : goal.loop-pair-init
loop-pair-init c =
    let e = c.chunks_exact-pair-items.ensures in
    (linking_none _, rw c.into_iter-pair-iterator.ensures.into_iter_gives (pairs_none e.rest e.size))

pub loop-pair-preserved : goal.loop-pair-preserved
loop-pair-preserved c =
    let s = c.in-Some.ensures.steps in
    let l = c.loop-pair.invariant.0 in
    let p = c.loop-pair.invariant.1 in
    let k = c.link.ensures in
    let pair = c.in-Some.pair.now in
    let next = c.next.new.self.rest.now in
    rw length_push (
      linking_more l (c.from.ensures ∙ first pair next p s.1.0 s.1.1) (c.from-in-loop-pair.ensures ∙ second pair next p s.1.0 s.1.1) (omega arith)
          (λ a. k.words a (l.words a)) k.links,
      rw s.0 (pairs_more pair next p s.1.0 s.1.1),
    )

pub returns : goal.returns
returns c = linking_all c.loop-pair.invariant.0 (pairs_all c.loop-pair.invariant.1 (c.in-None.ensures.steps.1.0))
