-- `records::all_delivered` meets its contract.
use Rattle.messages.specs.Step.{is_delivered}
use Rattle.messages.specs.Ready.{all_delivered}
use Rattle.records.proofs.all_delivered.Goals as goal

pub returns : goal.returns
unfolding all_delivered is_delivered
returns c = c.all_delivered_in.ensures
