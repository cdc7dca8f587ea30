-- `machine::channels::left` meets its contract.
use Rattle.finite.proofs.Truth.{eq-same, ne_same}
use Rattle.messages.specs.Step.{released}
use Rattle.machine.proofs.channels.left.Goals as goal

pub returns-then-h-holder : goal.returns-then-h-holder
unfolding released
returns-then-h-holder c = rw (eq-same c.if-h-holder.true, released)

pub returns-else-h-holder : goal.returns-else-h-holder
unfolding released
returns-else-h-holder c = rw (ne_same c.if-h-holder.false, released)
