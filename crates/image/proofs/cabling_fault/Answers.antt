-- `image::cabling_fault` meets its contract.
use Rattle.std.proofs.Common.{rules, Err}
use mathlib.Core.Path.{◌≡◌, ◌∙◌, sym, ap}
use Rattle.refusal.proofs.Verdicts.{then-fine, then-fault}
use Rattle.cabling.specs.Faults.{fault_of}
use Rattle.image.proofs.cabling_fault.Goals as goal

pub returns-in_err-front_fault : goal.returns-in_err-front_fault
returns-in_err-front_fault c =
    let r : c.from_residual.result ≡ Err c.in_err-front_fault.field-0.0 = search rules in
    r ∙ sym (then-fault _ (sym c.front_fault.ensures ∙ c.in_err-front_fault.was))

pub returns : goal.returns
returns c =
    c.fault.ensures ∙ ap fault_of c.cabling_in.ensures ∙ sym (then-fine _ (sym c.front_fault.ensures ∙ c.in_ok-front_fault.was))
