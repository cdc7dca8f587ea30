-- `writing::write` meets its contract: the checks, and then the image, laid in the buffer.
use Rattle.std.proofs.Common.{rules}
use mathlib.Core.Path.{refl, sym, ◌∙◌, ap, ap₂}
use mathlib.Core.Bool.{Bool}
use Prim.Native.Nat.{ℕ}
use Rattle.cabling.specs.Cabling.{Cabling, cabled}
use Rattle.cabling.proofs.Meaning.{fault-fine}
use Rattle.fabric.proofs.Making.{fault-made, fine-made}
use Rattle.results.proofs.Placed.{fine-writes, err-writes}
use Rattle.image.specs.Image.{image_of, kinds_of}
use Rattle.fabric.proofs.Parts.{cabling_of, full-asks}
use Rattle.writing.proofs.write.Goals as goal

pub returns-in_err-f : goal.returns-in_err-f
returns-in_err-f c =
    err-writes (fault-made _ c.make.ensures c.in_err-f.was) (search rules)

pub full-requires : goal.full-requires
full-requires c =
    let (fine, made) = fine-made _ c.make.ensures c.in_ok-f.was in
    let (good, same) = full-asks _ made ((fault-fine _).0 fine) refl in
    record { good = good; made = same }

pub returns-then-full : goal.returns-then-full
returns-then-full c =
    let (fine, made) = fine-made _ c.make.ensures c.in_ok-f.was in
    fine-writes fine (ap₂ (λ (k : ℕ) (x : Cabling). image_of k x) (ap kinds_of (sym c.if-full.true)) (cabling_of _ made refl))
    c.full.ensures

pub returns-in_err-fault : goal.returns-in_err-fault
returns-in_err-fault c =
    err-writes (sym c.fault.ensures ∙ c.in_err-fault.was) (search rules)

pub links-requires : goal.links-requires
links-requires c = (fault-fine _).0 (sym c.fault.ensures ∙ c.in_ok-fault.was)

pub returns : goal.returns
returns c =
    let a = c.args in
    fine-writes (sym c.fault.ensures ∙ c.in_ok-fault.was)
    (ap (λ (b : Bool). image_of (kinds_of b) (cabled a.cabling.now.nodes a.cabling.now.pairs.now)) (sym c.if-full.false)) c.links.ensures
