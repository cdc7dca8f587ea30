-- `fabric::bare` meets its contract.
use mathlib.Core.Path.{refl}
use Rattle.fabric.specs.Fabric.{bare_fabric}
use Rattle.fabric.proofs.bare.Goals as goal

pub returns : goal.returns
unfolding bare_fabric
returns c = refl
