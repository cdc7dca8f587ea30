-- `hops::Tables::within` meets its contract: hop over the fronts.
use Rattle.hops.proofs.Cases.{fronts_within}
use Rattle.hops.proofs.Tables.within.Goals as goal

pub returns : goal.returns
returns c =
    fronts_within _ _ _ _ _ _ _ c.capped-k.ensures c.front.ensures c.front-2.ensures c.front-3.ensures c.hop.ensures
