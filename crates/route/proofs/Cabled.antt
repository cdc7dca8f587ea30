-- Whoever asks hop over the fabric of a good cabling is led along its routes.
use mathlib.Core.Path.{◌≡◌, ap}
use mathlib.Core.List.{List, ◌∷◌}
use Prim.Native.Nat.{ℕ, ◌<◌}
use Rattle.cabling.specs.Cabling.{Cabling, Good}
use Rattle.fabric.specs.Fabric.{route_for, fabric_of}
use Rattle.fabric.proofs.Hops.{fabric-walk}
use Rattle.route.specs.Follow.{followed}

pub follows : {c : Cabling} → Good c → (s t : ℕ) → s < c.nodes → t < c.nodes → followed (fabric_of c) s t ≡ s ∷ route_for c s t
unfolding followed fabric_of
follows g s t a b = ap (λ (l : List ℕ). s ∷ l) (fabric-walk g s t a b)
