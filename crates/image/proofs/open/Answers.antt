-- `image::open` meets its contract: the contents decide which image it is.
use mathlib.Core.Path.{◌∙◌, sym}
use Rattle.fabric.proofs.Making.{made_fault, made_as}
use Rattle.image.proofs.Faults.{links-broken, image-full, image-links, image-ordered}
use Rattle.image.proofs.open.Goals as goal

pub returns-then-in_order : goal.returns-then-in_order
returns-then-in_order c =
    made_as _ c.open_full.ensures (sym (image-full _ (sym c.in_order.ensures ∙ c.if-in_order.true)))

pub returns-then-in_order-2 : goal.returns-then-in_order-2
returns-then-in_order-2 c =
    made_as _ c.make_in.ensures (sym (image-ordered _ (sym c.in_order-2.ensures ∙ c.if-in_order-2.true)))

pub returns : goal.returns
returns c =
    made_fault _
    (image-links _ (sym c.in_order.ensures ∙ c.if-in_order.false) ∙ links-broken _ (sym c.in_order-2.ensures ∙ c.if-in_order-2.false))
