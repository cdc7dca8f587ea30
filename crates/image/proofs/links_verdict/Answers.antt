-- `image::links_verdict` meets its contract: the contents of a links image, then its cabling.
use mathlib.Core.Path.{sym, ◌∙◌}
use Rattle.image.proofs.Faults.{links-ordered, links-broken}
use Rattle.image.proofs.links_verdict.Goals as goal

pub returns-then-not-in_order : goal.returns-then-not-in_order
returns-then-not-in_order c = sym (links-broken _ (sym c.in_order.ensures ∙ c.if-not-in_order.true))

pub returns : goal.returns
returns c = c.cabling_fault.ensures ∙ sym (links-ordered _ (sym c.in_order.ensures ∙ c.if-not-in_order.false))
