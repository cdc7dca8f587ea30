-- `start::fresh` meets its contract: the image, then the list, then a fresh record.
use Rattle.std.specs.Prelude.{Err}
use mathlib.Core.Path.{◌≡◌, ◌∙◌}
use borrow.Author.Rules.{rules}
use Rattle.start.proofs.Cases.{fresh-image, fresh-list, fresh-fine}
use Rattle.start.proofs.fresh.Goals as goal

pub returns-in_err-f : goal.returns-in_err-f
returns-in_err-f c =
    let r : c.from_residual.result ≡ Err c.in_err-f.field-0.0 = search rules in
    r ∙ fresh-image _ _ c.open.ensures c.in_err-f.was

pub returns-in_err-list_fault : goal.returns-in_err-list_fault
returns-in_err-list_fault c =
    let r : c.from_residual-in_err-list_fault.result ≡ Err c.in_err-list_fault.field-0.0 = search rules in
    r ∙ fresh-list _ _ c.open.ensures c.in_ok-f.was c.list_fault.ensures c.in_err-list_fault.was

pub returns : goal.returns
returns c = fresh-fine _ _ c.open.ensures c.in_ok-f.was c.list_fault.ensures c.in_ok-list_fault.was c.begun.ensures
