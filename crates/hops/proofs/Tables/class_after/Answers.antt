-- `hops::Tables::class_after` meets its contract.
use mathlib.Core.Path.{sym, ◌∙◌}
use Rattle.finite.proofs.Truth.{below-lt, below-le}
use Rattle.hops.proofs.Cases.{class-here, class-falling, class-fall, class-free}
use Rattle.hops.proofs.Tables.class_after.Goals as goal

pub returns-then-node-destination : goal.returns-then-node-destination
returns-then-node-destination c = sym (class-here _ _ _ _ _ c.if-node-destination.true)

pub returns-then-class-eq1 : goal.returns-then-class-eq1
returns-then-class-eq1 c = sym (class-falling _ _ _ _ _ c.if-node-destination.false c.if-class-eq1.true)

pub returns-then-falls : goal.returns-then-falls
returns-then-falls c =
    sym (class-fall _ _ _ _ _ c.if-node-destination.false (below-lt _ _ (sym c.falls.ensures ∙ c.if-falls.true)))

pub returns-else-falls : goal.returns-else-falls
returns-else-falls c =
    sym (class-free _ _ _ _ _ c.if-node-destination.false c.if-class-eq1.false (below-le _ _ (sym c.falls.ensures ∙ c.if-falls.false)))
