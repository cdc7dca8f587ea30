-- `drained::output` meets its contract: the line of the drain's end, or that of a refusal.
use Rattle.results.proofs.Placed.{no-room_for}
use Rattle.drained.proofs.Cases.{drain_prints}
use Rattle.drained.proofs.output.Goals as goal

pub returns-then-out-lt-LONGEST : goal.returns-then-out-lt-LONGEST
returns-then-out-lt-LONGEST c = no-room_for c.if-out-lt-LONGEST.true

pub returns : goal.returns
returns c = drain_prints _ c.if-out-lt-LONGEST.false c.drain-written.ensures c.told.ensures
