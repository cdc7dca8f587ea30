-- `image::open_full` meets its contract: cabling, then tables, in this order.
use Rattle.std.proofs.Common.{rules, Ok, Err}
use mathlib.Core.Path.{◌≡◌, ◌∙◌, sym}
use Rattle.refusal.proofs.Verdicts.{then-fine, then-fault}
use Rattle.fabric.specs.Fabric.{fabric_of}
use Rattle.fabric.proofs.Making.{made_fault, made-fine, fault-made, fine-made}
use Rattle.image.specs.Image.{cabling_in}
use Rattle.image.specs.Faults.{cabling_fault}
use Rattle.image.proofs.Faults.{cabling-good, tables-fine, tables-differ}
use Rattle.image.proofs.open_full.Goals.{In_ok-f}
use Rattle.image.proofs.open_full.Goals as goal

-- the cabling has no fault, and f is its fabric
made-at : (c : In_ok-f) → let b = c.args.image.now in
    (cabling_fault b ≡ Ok tt) × (c.in_ok-f.f ≡ fabric_of (cabling_in b))
made-at c = fine-made _ c.make_in.ensures c.in_ok-f.was

pub returns-in_err-f : goal.returns-in_err-f
returns-in_err-f c =
    let r : c.from_residual.result ≡ Err c.in_err-f.field-0.0 = search rules in
    r ∙ made_fault _ (then-fault _ (fault-made _ c.make_in.ensures c.in_err-f.was))

pub agrees-requires : goal.agrees-requires
agrees-requires c =
    let m = made-at (goal.at.agrees-requires c).In_ok-f in
    record { good = (cabling-good _ m.0).0; made = m.1 }

pub returns-then-not-agrees : goal.returns-then-not-agrees
returns-then-not-agrees c =
    let m = made-at (goal.at.returns-then-not-agrees c).In_ok-f in
    made_fault _ (then-fine _ m.0 ∙ tables-differ _ (sym c.agrees.ensures ∙ c.if-not-agrees.true))

pub returns : goal.returns
returns c =
    let m = made-at (goal.at.returns c).In_ok-f in
    made-fine _ (then-fine _ m.0 ∙ tables-fine _ (sym c.agrees.ensures ∙ c.if-not-agrees.false)) m.1
