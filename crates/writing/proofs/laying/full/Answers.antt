-- `writing::laying::full` meets its contract: no room, nothing written; else the front and the fabric's labels and rows behind it.
use Rattle.std.proofs.Common.{rules}
use Rattle.laid.specs.Laid.{page}
use Rattle.laid.proofs.Pieces.{lays_left}
use Rattle.results.proofs.Placed.{lays-writes}
use Rattle.writing.proofs.Pieces.{full-short, full-front-fits, full-lays}
use Rattle.writing.proofs.laying.full.Goals as goal

pub returns-then-buffer-size : goal.returns-then-buffer-size
returns-then-buffer-size c = full-short _ c.if-buffer-size.true

pub returns : goal.returns
returns c =
    let pre = c.requires in
    let l = c.front.ensures.laid _ c.new-out.ensures.blank (full-front-fits pre.good c.if-buffer-size.false) in
    lays-writes {p = page _ _} (lays_left
    (full-lays _ pre.made l (rw c.front-2.ensures at c.put.ensures.laid) (rw c.front-3.ensures at c.put-2.ensures.laid)
    (rw c.front-4.ensures at c.put-3.ensures.laid) c.if-buffer-size.false) (search rules))
