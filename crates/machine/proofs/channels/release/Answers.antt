-- `machine::channels::release` meets its contract: channels passed are released, the others are as they were.
use mathlib.Core.Path.{refl, sym, ◌∙◌, ap}
use native.Mathlib.Nat.{le_refl}
use native.Mathlib.Omega.{arith}
use Rattle.messages.specs.Step.{released}
use Rattle.machine.specs.InPlace.{given_back}
use Rattle.finite.proofs.Filling.{filling_more, filling_rest}
use Rattle.machine.proofs.InPlace.{left_below, left-from}
use Rattle.machine.proofs.channels.release.Goals as goal

pub loop-c-preserved : goal.loop-c-preserved
loop-c-preserved c =
    let inv = c.loop-c.invariant in
    let more = filling_more _ inv.0 (omega arith) (c.left.ensures ∙ ap (released _) (inv.0.ahead _ (le_refl _)) ∙ sym (left_below _ _ _ _ (omega arith))) in
    (more, more.size)

pub returns : goal.returns
unfolding given_back
returns c = filling_rest _ c.loop-c.invariant.0 refl (λ j l h. sym (left-from _ _ _ j (omega arith)))
