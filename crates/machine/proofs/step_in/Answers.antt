-- `machine::step_in` meets its contract: each return is a case of the definition.
use mathlib.Core.Path.{sym, ◌∙◌}
use native.Mathlib.Omega.{arith}
use Rattle.messages.specs.Step.{is_delivered}
use Rattle.machine.proofs.InPlace.{refused_in, already_in, delivered_in, astray_in, blocked_in, moved_in}
use Rattle.machine.proofs.step_in.Goals as goal

pub returns-then-few-message-clause-step : goal.returns-then-few-message-clause-step
returns-then-few-message-clause-step c =
    let f = c.few.ensures in
    refused_in _ _ _ (let b = c.if-few-message.true in omega arith)

pub returns-then-marked-clause-step : goal.returns-then-marked-clause-step
unfolding is_delivered
returns-then-marked-clause-step c =
    let f = c.few.ensures in
    already_in _ _ _ (let b = c.if-few-message.false in omega arith) (sym c.marked.ensures ∙ c.if-marked.true)

pub returns-then-want-eq-ALL_TAKEN-clause-step : goal.returns-then-want-eq-ALL_TAKEN-clause-step
unfolding is_delivered
returns-then-want-eq-ALL_TAKEN-clause-step c =
    let f = c.few.ensures in
    delivered_in _ _ _ (let b = c.if-few-message.false in omega arith) (sym c.marked.ensures ∙ c.if-marked.false) (c.from-want.ensures ∙ c.get.ensures)
    c.if-want-eq-ALL_TAKEN.true c.count-lent.ensures c.put.ensures c.release.ensures

pub returns-then-want-ge-MAX_CHANNELS-clause-step : goal.returns-then-want-ge-MAX_CHANNELS-clause-step
unfolding is_delivered
returns-then-want-ge-MAX_CHANNELS-clause-step c =
    let f = c.few.ensures in
    astray_in _ _ _ (let b = c.if-few-message.false in omega arith) (sym c.marked.ensures ∙ c.if-marked.false) (c.from-want.ensures ∙ c.get.ensures)
    c.if-want-eq-ALL_TAKEN.false c.if-want-ge-MAX_CHANNELS.true

pub returns-then-holder-ne0-clause-step : goal.returns-then-holder-ne0-clause-step
unfolding is_delivered
returns-then-holder-ne0-clause-step c =
    let f = c.few.ensures in
    blocked_in _ _ _ (let b = c.if-few-message.false in omega arith) (sym c.marked.ensures ∙ c.if-marked.false) (c.from-want.ensures ∙ c.get.ensures)
    c.if-want-eq-ALL_TAKEN.false c.if-want-ge-MAX_CHANNELS.false (c.from-holder.ensures ∙ c.get-2.ensures) c.if-holder-ne0.true

pub returns-clause-step : goal.returns-clause-step
unfolding is_delivered
returns-clause-step c =
    let f = c.few.ensures in
    moved_in _ _ _ (let b = c.if-few-message.false in omega arith) (sym c.marked.ensures ∙ c.if-marked.false) (c.from-want.ensures ∙ c.get.ensures)
    c.if-want-eq-ALL_TAKEN.false c.if-want-ge-MAX_CHANNELS.false (c.from-holder.ensures ∙ c.get-2.ensures) c.if-holder-ne0.false c.count-lent-2.ensures
    c.put-2.ensures c.advance.ensures.advanced
