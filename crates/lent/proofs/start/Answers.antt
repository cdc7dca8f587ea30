-- `lent::start` meets its contract: the record is written where there is a fresh one.
use Rattle.std.specs.Prelude.{Err}
use mathlib.Core.Path.{◌≡◌}
use borrow.Author.Rules.{rules}
use Rattle.start.proofs.Cases.{start-refused, start-begun}
use Rattle.lent.proofs.start.Goals as goal

pub returns-in_err-record : goal.returns-in_err-record
returns-in_err-record c =
    let r : c.from_residual.result ≡ Err c.in_err-record.field-0.0 = search rules in
    rw r (start-refused _ _ _ c.fresh.ensures c.in_err-record.was)

pub returns : goal.returns
returns c = start-begun _ _ _ c.fresh.ensures c.in_ok-record.was
