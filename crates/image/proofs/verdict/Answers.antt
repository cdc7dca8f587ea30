-- `image::verdict` meets its contract.
use Rattle.std.proofs.Common.{rules, Err}
use mathlib.Core.Path.{◌≡◌, ◌∙◌, sym}
use Rattle.fabric.proofs.Making.{fault-made, fine-made}
use Rattle.image.proofs.Faults.{image-ordered}
use Rattle.image.proofs.verdict.Goals as goal

pub returns-then-in_order : goal.returns-then-in_order
returns-then-in_order c = c.cabling_fault.ensures ∙ sym (image-ordered _ (sym c.in_order.ensures ∙ c.if-in_order.true))

pub returns-in_err-open : goal.returns-in_err-open
returns-in_err-open c =
    let r : c.from_residual.result ≡ Err c.in_err-open.field-0.0 = search rules in
    r ∙ sym (fault-made _ c.open.ensures c.in_err-open.was)

pub returns : goal.returns
returns c = sym (fine-made _ c.open.ensures c.in_ok-open.was).0
