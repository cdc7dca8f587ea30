-- `reading::read` meets its contract: where the image has a fault, nothing is written.
use mathlib.Core.Path.{sym, ◌∙◌}
use Rattle.std.proofs.Common.{rules}
use Rattle.results.proofs.Placed.{fault-writes}
use Rattle.reading.proofs.Reading.{reads}
use Rattle.reading.proofs.read.Goals as goal

pub returns-in_err-verdict : goal.returns-in_err-verdict
returns-in_err-verdict c =
    reads _ (λ i. (c.type_inv.image i).fits) (fault-writes (sym c.verdict.ensures ∙ c.in_err-verdict.was)) (search rules)
