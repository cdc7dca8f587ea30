-- `fabric::make` meets its contract: the fault, or the fabric.
use Rattle.std.proofs.Common.{rules, Err}
use mathlib.Core.Path.{◌≡◌, sym, ◌∙◌}
use Rattle.cabling.proofs.Meaning.{fault-fine}
use Rattle.fabric.proofs.Making.{made_fault, made-fine}
use Rattle.fabric.proofs.make.Goals as goal

pub good-requires : goal.good-requires
good-requires c = (fault-fine _).0 (sym c.fault.ensures ∙ c.in_ok-fault.was)

pub returns-in_err-fault : goal.returns-in_err-fault
returns-in_err-fault c =
    let r : c.from_residual.result ≡ Err c.in_err-fault.field-0.0 = search rules in
    r ∙ made_fault _ (sym c.fault.ensures ∙ c.in_err-fault.was)

pub returns : goal.returns
returns c = made-fine _ (sym c.fault.ensures ∙ c.in_ok-fault.was) c.good.ensures
