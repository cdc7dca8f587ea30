-- `image::make_in` meets its contract: a fault of the first two bytes, or what the cabling makes.
use Rattle.std.proofs.Common.{rules, Err}
use mathlib.Core.Path.{◌≡◌, ◌∙◌, sym, ap}
use Rattle.refusal.proofs.Verdicts.{then-fine, then-fault}
use Rattle.fabric.specs.Fabric.{made_of}
use Rattle.fabric.proofs.Making.{made_fault, made_as}
use Rattle.image.proofs.make_in.Goals as goal

pub returns-in_err-front_fault : goal.returns-in_err-front_fault
returns-in_err-front_fault c =
    let r : c.from_residual.result ≡ Err c.in_err-front_fault.field-0.0 = search rules in
    r ∙ made_fault _ (then-fault _ (sym c.front_fault.ensures ∙ c.in_err-front_fault.was))

pub returns : goal.returns
returns c =
    made_as _ (c.make.ensures ∙ ap made_of c.cabling_in.ensures) (sym (then-fine _ (sym c.front_fault.ensures ∙ c.in_ok-front_fault.was)))
