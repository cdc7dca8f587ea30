-- `hops::Tables::falls` meets its contract.
use mathlib.Core.Path.{ap₂}
use lib.Dec.{ltb}
use Rattle.finite.specs.Truth.{below}
use Rattle.hops.proofs.Tables.falls.Goals as goal

pub returns : goal.returns
unfolding below
returns c = ap₂ ltb c.byte.ensures c.byte-2.ensures
