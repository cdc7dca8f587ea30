-- `lines::refusal_line` meets its contract: the word, two fields, the line feed.
use Rattle.std.proofs.Common.{arith, rules}
use Rattle.laid.proofs.Pieces.{lays_left}
use Rattle.laid.specs.Laid.{page}
use Rattle.results.proofs.Placed.{no-room_for, room-for}
use Rattle.lines.specs.Lines.{refused_word, refusal_line}
use Rattle.lines.proofs.Whole.{lays-line}
use Rattle.lines.proofs.refusal_line.Goals as goal

pub returns-then-buffer-lt-LONGEST_REFUSAL : goal.returns-then-buffer-lt-LONGEST_REFUSAL
returns-then-buffer-lt-LONGEST_REFUSAL c = no-room_for c.if-buffer-lt-LONGEST_REFUSAL.true

pub returns : goal.returns
unfolding refusal_line
returns c =
    let e = rw (c.new-out.ensures.blank, c.number.ensures, c.place.ensures) at c.line.ensures.laid in
    room-for {p = page _ _} (omega arith) (lays_left (lays-line refused_word _ e (omega arith)) (search rules))
