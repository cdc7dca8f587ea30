-- `rows::tables_of` meets its contract: column by column.
use native.Mathlib.Omega.{arith}
use Rattle.rows.proofs.Tabling.{tabling_none, turned, tabling_more, tabling_all}
use Rattle.rows.proofs.tables_of.Goals as goal

pub loop-d-init : goal.loop-d-init
loop-d-init c = tabling_none _ _ (omega (arith, c.capped-m.ensures)) c.of-ways.ensures

pub search-s-requires : goal.search-s-requires
search-s-requires c = (omega arith, turned _ _ c.loop-d.invariant.of)

pub loop-d-preserved : goal.loop-d-preserved
loop-d-preserved c = tabling_more _ _ (omega arith) c.loop-d.invariant c.search-s.ensures c.place.ensures c.place-in-loop-d.ensures

pub returns : goal.returns
returns c = tabling_all _ _ c.loop-d.invariant (omega arith) c.capped-m.ensures
