-- `machine::advance` meets its contract: what comes behind is written down for the message.
use Rattle.machine.proofs.InPlace.{advances}
use Rattle.machine.proofs.advance.Goals as goal

pub returns-clause-advanced : goal.returns-clause-advanced
returns-clause-advanced c =
    advances _ _ c.get.ensures c.byte.ensures c.byte-2.ensures c.byte-3.ensures c.ahead-found.ensures c.put.ensures c.put-2.ensures c.put-3.ensures
