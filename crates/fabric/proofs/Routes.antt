-- The routes of every good cabling: each is a shortest lawful path, with fewer hops than there are nodes.
use mathlib.Core.Path.{◌≡◌}
use mathlib.Core.List.{[]}
use Prim.Native.Nat.{ℕ, ◌<◌}
use lib.ListN.{length}
use Rattle.lawful.specs.Path.{LawfulTo, Shortest}
use Rattle.lawful.proofs.Routes.{climbing-route, route-self}
use Rattle.lawful.proofs.Few.{few-on-route}
use Rattle.cabling.specs.Cabling.{Cabling, Good, links}
use Rattle.cabling.proofs.Joined.{good-network}
use Rattle.fabric.specs.Fabric.{label_for, route_for}
use Rattle.fabric.proofs.Labels.{good-climbing}

module _ {c : Cabling} (g : Good c) (s t : ℕ) (a : s < c.nodes) (z : t < c.nodes) where
  -- RULES 5.4: "Its route follows these entries and has the length of a shortest lawful path"
  pub good-route : Shortest (LawfulTo (links c) (label_for c) s t) (route_for c s t)
  good-route = (climbing-route c.nodes (links c) (label_for c) (good-network g) (good-climbing g) s t a z).shortest

  pub good-route-few : length (route_for c s t) < c.nodes
  good-route-few = few-on-route c.nodes (links c) (label_for c) (good-network g) (good-climbing g) s t a z

-- RULES 5.4: "from a node to itself that is 0 hops"
pub route_home : (c : Cabling) (s : ℕ) → route_for c s s ≡ []
route_home c s = route-self c.nodes (links c) (label_for c) s
