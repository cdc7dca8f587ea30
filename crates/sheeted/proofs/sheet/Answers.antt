-- `sheeted::sheet` meets its contract: what the call wrote, or the line of the refusal.
use Rattle.results.proofs.Placed.{no-room_for}
use Rattle.sheeted.proofs.Cases.{sheet-prints}
use Rattle.sheeted.proofs.sheet.Goals as goal

pub returns-then-out-lt-LONGEST_SHEET : goal.returns-then-out-lt-LONGEST_SHEET
returns-then-out-lt-LONGEST_SHEET c = no-room_for c.if-out-lt-LONGEST_SHEET.true

pub returns : goal.returns
returns c =
    sheet-prints _ c.if-out-lt-LONGEST_SHEET.false c.sheet-written.ensures c.told.ensures
