-- `picking::found` meets its contract.
use Prim.Native.Nat.{◌≤◌}
use native.Mathlib.Omega.{arith}
use Rattle.seeds.proofs.Places.{look-le}
use Rattle.picking.proofs.found.Goals as goal

pub choice-requires : goal.choice-requires
choice-requires c =
    let l : c.look-from.result ≤ c.few.result = rw c.look-from.ensures (look-le _ _) in omega arith
