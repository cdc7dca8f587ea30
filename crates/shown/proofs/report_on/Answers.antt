-- `shown::report_on` meets its contract: the fault of the image, or the report on its fabric.
use Rattle.std.proofs.Common.{rules}
use Rattle.laid.specs.Laid.{page}
use Rattle.laid.proofs.Pieces.{lays_left}
use Rattle.results.proofs.Placed.{err-writes}
use Rattle.fabric.proofs.Making.{fault-made}
use Rattle.shown.proofs.Cases.{Opened, opened, report-writes, refused-as}
use Rattle.shown.proofs.report_on.Goals as goal
use Rattle.shown.proofs.report_on.Goals.{After-pairs_in}

-- the image was opened
opened-at : (c : After-pairs_in) → Opened c.args.image.now c.in_ok-f.f c.pairs_in.result.now
opened-at c = opened _ c.open.ensures c.in_ok-f.was c.pairs_in.ensures

pub returns-in_err-f : goal.returns-in_err-f
returns-in_err-f c =
    let fault = fault-made _ c.open.ensures c.in_err-f.was in
    record { writes = err-writes fault (search rules); refused = refused-as fault (search rules) }

pub report-requires : goal.report-requires
report-requires c = let o = opened-at (goal.at.report-requires c).After-pairs_in in record { good = o.good; made = o.fabric }

pub returns : goal.returns
returns c =
    let o = opened-at (goal.at.returns c).After-pairs_in in
    let l = c.report.ensures.laid _ c.new-page.ensures.blank c.requires in
    record { writes = report-writes {p = page _ _} o (lays_left l (search rules)); refused = λ r is. absurd cc }
