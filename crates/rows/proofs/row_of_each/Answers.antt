-- `rows::row_of_each` meets its contract: row by row.
use native.Mathlib.Omega.{arith}
use Rattle.finite.proofs.Filling.{filling_none, filling_more, filling_all}
use Rattle.nodes.specs.Limits.{max_nodes}
use Rattle.rows.proofs.row_of_each.Goals as goal

pub loop-v-init : goal.loop-v-init
loop-v-init g c = λ set h. filling_none _ _

pub loop-v-preserved : goal.loop-v-preserved
loop-v-preserved g c = λ set h. filling_more _ (c.loop-v.invariant set h) (omega arith) (h _ _ c.row.ensures)

pub returns : goal.returns
returns g c = λ set h. filling_all max_nodes (c.loop-v.invariant set h) (omega arith) (omega arith)
