-- `picking::pick_in` meets its contract.
use Rattle.picking.proofs.InPlace.{picked_in}
use Rattle.picking.proofs.pick_in.Goals as goal

pub returns-clause-pick : goal.returns-clause-pick
returns-clause-pick c =
    let f = c.found-picked.ensures in
    picked_in _ _ _ f.seed f.look f.message c.step_in.ensures.step
