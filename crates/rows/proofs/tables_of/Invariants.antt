-- `rows::tables_of` meets its contract. The invariant: the columns of the destinations below d are placed.
use lib.ListN.{get_or}
use Rattle.network.specs.Table.{edge_of}
use Rattle.rows.proofs.Tabling.{Tabling}
use Rattle.rows.proofs.tables_of.Given as goal

abbrev pub invariant-loop-d : goal.invariant-loop-d
invariant-loop-d l = Tabling (edge_of l.t) (λ u. get_or l.labels u 0) l.m l.ways l.free l.falling l.d
