-- `network::table_of` meets its contract. The invariant: the table holds the links of the pairs passed.
use lib.ListN.{length}
use Rattle.network.proofs.Links.{Linking, Pairs}
use Rattle.network.proofs.table_of.Given as goal

abbrev pub invariant-loop-pair : goal.invariant-loop-pair
invariant-loop-pair l = Linking l.pairs l.t (length l.yielded) × Pairs l.pairs (length l.yielded) l.pair-iterator.rest.now l.pair-iterator.size
