-- `machine::is_ready` meets its contract.
use mathlib.Core.Path.{sym, ◌∙◌}
use Rattle.finite.specs.Truth.{same}
use Rattle.finite.proofs.Truth.{non-true, non-false}
use Rattle.messages.proofs.Ready.{in_never, in_home, in_astray, in_next}
use Rattle.machine.proofs.is_ready.Goals as goal

pub returns-then-marked : goal.returns-then-marked
returns-then-marked c = in_never _ _ _ (non-true _ (sym c.marked.ensures ∙ c.if-marked.true))

pub returns-then-want-eq-ALL_TAKEN : goal.returns-then-want-eq-ALL_TAKEN
returns-then-want-eq-ALL_TAKEN c =
    in_home _ _ _ (non-false _ (sym c.marked.ensures ∙ c.if-marked.false)) (c.from-want.ensures ∙ c.get.ensures) c.if-want-eq-ALL_TAKEN.true

pub returns-then-want-ge-MAX_CHANNELS : goal.returns-then-want-ge-MAX_CHANNELS
returns-then-want-ge-MAX_CHANNELS c =
    in_astray _ _ _ (non-false _ (sym c.marked.ensures ∙ c.if-marked.false)) (c.from-want.ensures ∙ c.get.ensures) c.if-want-eq-ALL_TAKEN.false c.if-want-ge-MAX_CHANNELS.true

pub returns : goal.returns
unfolding same
returns c =
    in_next _ _ _ (non-false _ (sym c.marked.ensures ∙ c.if-marked.false)) (c.from-want.ensures ∙ c.get.ensures) c.if-want-eq-ALL_TAKEN.false c.if-want-ge-MAX_CHANNELS.false c.get-2.ensures
