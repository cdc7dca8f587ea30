-- `shown::output` meets its contract: the report on the image, or the line of the refusal.
use Rattle.results.proofs.Placed.{no-room_for}
use Rattle.shown.proofs.Cases.{show_prints}
use Rattle.shown.proofs.output.Goals as goal

pub returns-then-out-lt-LONGEST : goal.returns-then-out-lt-LONGEST
returns-then-out-lt-LONGEST c = no-room_for c.if-out-lt-LONGEST.true

pub returns : goal.returns
returns c = show_prints _ c.if-out-lt-LONGEST.false c.report_on-written.ensures.refused c.report_on-written.ensures.writes c.told.ensures
