-- `writing::build` meets its contract: the checks of a links image, and then its full image, laid in the buffer.
use Rattle.std.proofs.Common.{rules}
use mathlib.Core.Path.{sym, ◌∙◌, ap}
use Rattle.fabric.proofs.Making.{fault-made, fine-made}
use Rattle.results.proofs.Placed.{fault-writes, fine-writes, err-writes}
use Rattle.format.specs.Contents.{full_kinds}
use Rattle.image.specs.Image.{image_of}
use Rattle.image.proofs.Faults.{cabling-good, links-ordered, links-broken}
use Rattle.fabric.proofs.Parts.{cabling_of, full-asks}
use Rattle.writing.proofs.build.Goals as goal

pub returns-then-not-in_order : goal.returns-then-not-in_order
returns-then-not-in_order c = fault-writes (links-broken _ (sym c.in_order.ensures ∙ c.if-not-in_order.true))

pub returns-in_err-f : goal.returns-in_err-f
returns-in_err-f c =
    err-writes (links-ordered _ (sym c.in_order.ensures ∙ c.if-not-in_order.false) ∙ fault-made _ c.make_in.ensures c.in_err-f.was) (search rules)

pub full-requires : goal.full-requires
full-requires c =
    let (fine, made) = fine-made _ c.make_in.ensures c.in_ok-f.was in
    let (good, same) = full-asks _ made (cabling-good _ fine).0 c.pairs_in.ensures in
    record { good = good; made = same }

pub returns : goal.returns
returns c =
    let (fine, made) = fine-made _ c.make_in.ensures c.in_ok-f.was in
    fine-writes (links-ordered _ (sym c.in_order.ensures ∙ c.if-not-in_order.false) ∙ fine)
    (ap (image_of full_kinds) (cabling_of _ made c.pairs_in.ensures)) c.full.ensures
