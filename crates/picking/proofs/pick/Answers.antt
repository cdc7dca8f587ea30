-- `picking::pick` meets its contract: past the end of the holders no channel is held, so the pick in place is the pick.
use mathlib.Core.Path.{◌≡◌, ◌∙◌, ap}
use lib.ListN.{length}
use borrow.Author.Rules.{rules}
use Rattle.messages.specs.Sizes.{max_channels}
use Rattle.messages.specs.declared.Record.{Record}
use Rattle.machine.proofs.InPlace.{free_past, comes_back}
use Rattle.picking.specs.InPlace.{picked}
use Rattle.picking.proofs.InPlace.{pick-in}
use Rattle.picking.proofs.pick.Goals as goal
use Rattle.picking.proofs.pick.Goals.{Start}

holders_size : (c : Start) → length c.args.«record».holders ≡ max_channels
holders_size c = search rules

pub returns : goal.returns
returns c =
    let n = holders_size (goal.at.returns c).Start in
    let e = c.pick_in-picked.ensures in
    let r = c.pick_in-picked.result in
    ap (λ (x : Record). picked r.seed r.look r.message x) (comes_back e.lent) ∙ e.pick ∙ pick-in _ _ _ n (free_past n)
