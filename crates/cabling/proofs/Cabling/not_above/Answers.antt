-- `cabling::Cabling::not_above` meets its contract: the first pair has none before it.
use mathlib.Core.Path.{refl, sym, ap}
use mathlib.Core.Logic.{inl}
use Rattle.finite.specs.Truth.{non}
use Rattle.finite.proofs.Truth.{not-non, and_true, true-non, ne_same}
use Rattle.finite.proofs.Decide.{fail}
use Rattle.cabling.specs.Faults.{not_above}
use Rattle.cabling.proofs.Tests.{decide_order}
use Rattle.cabling.proofs.Cabling.not_above.Goals as goal

pub returns-then-p-ne0 : goal.returns-then-p-ne0
unfolding not_above
returns-then-p-ne0 c = rw (true-non (ne_same c.if-p-ne0.true), and_true, not-non) (ap non c.is_above.ensures)

pub returns-else-p-ne0 : goal.returns-else-p-ne0
returns-else-p-ne0 c = rw c.if-p-ne0.false (sym (fail (decide_order _ _) (inl refl)))
