-- `rows::place` meets its contract. The invariant: the cells of the column before row v are placed.
use Rattle.rows.proofs.Grid.{Placing}
use Rattle.rows.proofs.place.Given as goal

abbrev pub invariant-loop-v : goal.invariant-loop-v
invariant-loop-v l = Placing l.m l.d l.column l.initial.table l.table l.v
