-- `built::output` meets its contract: the image that was built, or the line of the refusal.
use Rattle.results.proofs.Placed.{no-room_for}
use Rattle.built.proofs.Cases.{built_prints}
use Rattle.built.proofs.output.Goals as goal

pub returns-then-out-lt-LONGEST : goal.returns-then-out-lt-LONGEST
returns-then-out-lt-LONGEST c = no-room_for c.if-out-lt-LONGEST.true

pub returns : goal.returns
returns c =
    built_prints _ c.if-out-lt-LONGEST.false c.build-written.ensures c.told.ensures
