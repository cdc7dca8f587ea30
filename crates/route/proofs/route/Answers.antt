-- `route::route` meets its contract: the image, the two nodes, and then the route, placed.
use Rattle.std.proofs.Common.{inl, inr, ◌∙◌, rules, arith}
use mathlib.Core.Logic.{⊎_elim}
use Rattle.refusal.proofs.Verdicts.{then-fault}
use Rattle.results.proofs.Placed.{fault-writes, fine-writes, err-writes}
use Rattle.fabric.proofs.Making.{fault-made}
use Rattle.laid.proofs.Pieces.{lays-front}
use Rattle.route.proofs.Cases.{ends-refused, not-refused, Opened, opened}
use Rattle.route.proofs.route.Goals as goal
use Rattle.route.proofs.route.Goals.{In_ok-f}

-- the image was found fine
image-fine : (c : In_ok-f) → Opened c.args.image.now c.in_ok-f.f
image-fine c = opened _ c.open.ensures c.in_ok-f.was

pub returns-in_err-f : goal.returns-in_err-f
returns-in_err-f c =
    err-writes (then-fault _ (fault-made _ c.open.ensures c.in_err-f.was)) (search rules)

pub returns-then-f-source : goal.returns-then-f-source
returns-then-f-source c =
    let o = image-fine (goal.at.returns-then-f-source c).In_ok-f in
    fault-writes (ends-refused _ _ _ o.fine (⊎_elim (λ h. inl (omega arith)) (λ h. inr (omega arith)) c.then-f-source.either))

pub overflow_cast-source : goal.overflow_cast-source
overflow_cast-source c = let o = image-fine (goal.at.overflow_cast-source c).In_ok-f in omega arith

pub overflow_cast-destination : goal.overflow_cast-destination
overflow_cast-destination c = let o = image-fine (goal.at.overflow_cast-destination c).In_ok-f in omega arith

pub followed-requires : goal.followed-requires
followed-requires c = (image-fine (goal.at.followed-requires c).In_ok-f).few

pub returns : goal.returns
returns c =
    let o = image-fine (goal.at.returns c).In_ok-f in
    let l = lays-front (c.followed.ensures.laid _ c.new-out.ensures.blank (omega arith)) in
    fine-writes (not-refused _ _ _ o.fine (omega arith) (omega arith))
    (c.laid.ensures ∙ l.0 ∙ o.leads _ _ c.if-f-source.false c.if-f-destination.false) c.place.ensures
