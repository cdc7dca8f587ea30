-- `rows::start` meets its contract.
use Rattle.rows.specs.Steps.{search_from}
use Rattle.rows.proofs.start.Goals as goal

pub returns : goal.returns
unfolding search_from
returns c = rw c.one.ensures
