-- `sheeted::cable` meets its contract: what the call wrote, or the line of the refusal.
use Rattle.results.proofs.Placed.{no-room_for}
use Rattle.sheeted.proofs.Cases.{cable_prints}
use Rattle.sheeted.proofs.cable.Goals as goal

pub returns-then-out-lt-LONGEST_CABLE : goal.returns-then-out-lt-LONGEST_CABLE
returns-then-out-lt-LONGEST_CABLE c = no-room_for c.if-out-lt-LONGEST_CABLE.true

pub returns : goal.returns
returns c =
    cable_prints _ c.if-out-lt-LONGEST_CABLE.false c.cable-written.ensures c.told.ensures
