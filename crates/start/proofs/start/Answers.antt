-- `start::start` meets its contract: a fresh record, or the old one with the fault.
use Rattle.start.proofs.Cases.{start-refused, start-begun}
use Rattle.start.proofs.start.Goals as goal

pub returns-in-Ok : goal.returns-in-Ok
returns-in-Ok c = start-begun _ _ _ c.fresh.ensures c.in-Ok.is

pub returns-in-Err : goal.returns-in-Err
returns-in-Err c = start-refused _ _ _ c.fresh.ensures c.in-Err.is
