-- `sheets::sheet` meets its contract: the checks, the lines laid in a buffer of its own, and their bytes placed.
use Rattle.std.proofs.Common.{sym, ◌∙◌, rules}
use lib.Dec.{lit≤}
use Rattle.sheets.proofs.Cases.{sheet-refused, sheet-writes}
use Rattle.sheets.proofs.sheet.Goals as goal

pub returns-in_err-links_verdict : goal.returns-in_err-links_verdict
returns-in_err-links_verdict c =
    sheet-refused _ (λ i. (c.type_inv.image i).fits) (sym c.links_verdict.ensures ∙ c.in_err-links_verdict.was) (search rules)

pub returns : goal.returns
returns c =
    sheet-writes _ (λ i. (c.type_inv.image i).fits) _ (sym c.links_verdict.ensures ∙ c.in_ok-links_verdict.was)
    c.cabling_in.ensures (lit≤ tt) (rw c.new-out.ensures.blank at c.print.ensures.laid) c.laid.ensures c.place.ensures
