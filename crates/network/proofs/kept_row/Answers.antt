-- `network::kept_row` meets its contract: the row of a node that is not kept is empty, and every other row keeps the nodes that are.
use mathlib.Core.Path.{sym, ◌∙◌}
use Rattle.network.proofs.Table.{kept-none, kept-some}
use Rattle.network.proofs.kept_row.Goals as goal

pub returns-then-has : goal.returns-then-has
returns-then-has c = c.common.ensures ∙ kept-some _ _ _ (sym c.has.ensures ∙ c.if-has.true)

pub returns-else-has : goal.returns-else-has
returns-else-has c = c.none.ensures ∙ kept-none _ _ _ (sym c.has.ensures ∙ c.if-has.false)
