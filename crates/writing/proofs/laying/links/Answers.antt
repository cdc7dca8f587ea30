-- `writing::laying::links` meets its contract: no room, nothing written; else the front of one body.
use Rattle.std.proofs.Common.{arith, rules}
use Rattle.cabling.specs.Cabling.{cabled}
use Rattle.laid.specs.Laid.{page}
use Rattle.laid.proofs.Pieces.{lays_as, lays_left}
use Rattle.results.proofs.Placed.{no_room, lays-writes}
use Rattle.image.proofs.Sizes.{links-size}
use Rattle.writing.proofs.Pieces.{links_sizes, front_length, links-image}
use Rattle.writing.proofs.laying.links.Goals as goal

pub returns-then-buffer-size : goal.returns-then-buffer-size
returns-then-buffer-size c =
    let a = c.args in
    let e = links-size (cabled a.cabling.now.nodes a.cabling.now.pairs.now) in
    no_room _ _ (omega arith)

pub returns : goal.returns
returns c =
    let a = c.args in
    let e = front_length (links_sizes (cabled a.cabling.now.nodes a.cabling.now.pairs.now)) a.cabling.now.nodes a.cabling.now.pairs.now in
    let l = c.front.ensures.laid _ c.new-out.ensures.blank (omega arith) in
    lays-writes {p = page _ _} (lays_left (lays_as l (links-image (cabled a.cabling.now.nodes a.cabling.now.pairs.now))) (search rules))
