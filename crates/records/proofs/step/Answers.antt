-- `records::step` meets its contract: past the end of the holders no channel is held, so the move in place is the move.
use mathlib.Core.Path.{◌≡◌, ◌∙◌, ap}
use lib.ListN.{length}
use borrow.Author.Rules.{rules}
use Rattle.messages.specs.Sizes.{max_channels}
use Rattle.messages.specs.declared.Record.{Record}
use Rattle.messages.specs.Step.{with}
use Rattle.machine.proofs.InPlace.{free_past, step-in, comes_back}
use Rattle.records.proofs.step.Goals as goal
use Rattle.records.proofs.step.Goals.{Start}

holders_size : (c : Start) → length c.args.«record».holders ≡ max_channels
holders_size c = search rules

pub returns : goal.returns
returns c =
    let n = holders_size (goal.at.returns c).Start in
    let e = c.step_in-answer.ensures in
    ap (λ (r : Record). with r c.step_in-answer.result) (comes_back e.lent) ∙ e.step ∙ step-in _ _ _ n (free_past n)
