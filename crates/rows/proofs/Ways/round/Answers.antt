-- `Ways::round` meets its contract: both classes go by the sets from the beginning of the round.
use Rattle.finite.proofs.Sets.{has-set_of}
use Rattle.nodes.specs.Limits.{max_nodes}
use Rattle.rows.specs.Steps.{round_of}
use Rattle.rows.proofs.Rounds.{search_ext}
use Rattle.rows.proofs.Ways.round.Goals as goal

pub grow-requires : goal.grow-requires
grow-requires c v l t = rw (c.union.ensures, has-set_of max_nodes _ v l) (c.requires.free v l t)

pub grow-requires-2 : goal.grow-requires-2
grow-requires-2 c = rw c.none.ensures c.requires.falling

pub returns : goal.returns
unfolding round_of
returns c = search_ext c.grow.ensures (rw c.none.ensures at c.grow-2.ensures)
