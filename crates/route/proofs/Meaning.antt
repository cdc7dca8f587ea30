-- What route writes, RULES 7.6: "hops + 1 node numbers, source first", the nodes of a shortest lawful path. N bytes, and so 64, are room enough; 9 comes last.
use Rattle.std.specs.Prelude.{Err, Ok}
use mathlib.Core.Path.{◌≡◌, ◌∙◌, ap}
use mathlib.Core.List.{List, [], ◌∷◌}
use mathlib.Core.Logic.{◌↔◌}
use Prim.Native.Nat.{ℕ, ◌+◌, ◌≤◌, ◌<◌}
use native.Mathlib.Omega.{arith}
use lib.ListN.{length}
use borrow.Author.Tests.{le-leb}
use Rattle.refusal.specs.declared.Refusal.TheVariants.{Short}
use Rattle.cabling.specs.Cabling.{links}
use Rattle.lawful.specs.Path.{LawfulTo, Shortest}
use Rattle.fabric.specs.Fabric.{label_for}
use Rattle.fabric.proofs.Routes as routes
use Rattle.format.specs.Contents.{nodes_in}
use Rattle.results.specs.Written.{placed, written_of, written_into, Writes, Written}
use Rattle.results.proofs.Meaning.{short_means}
use Rattle.image.specs.Image.{cabling_in}
use Rattle.image.specs.Faults.{image_fault}
use Rattle.image.proofs.Images.{accepted-good}
use Rattle.route.specs.Route.{route_fault, route_bytes}
use Rattle.route.proofs.Cases.{not-refused, route-not-short}

-- an accepted image, two of its nodes, and N bytes of room: the answer is hops + 1, and what is written is the source and the nodes after it on a shortest lawful path
pub route-writes : (b : List ℕ) (s t : ℕ) {before after : List ℕ} {r : Written} → image_fault b ≡ Ok tt → s < nodes_in b → t < nodes_in b → nodes_in b ≤ length before
    → Writes (route_fault b s t) (route_bytes b s t) before r after
    → (l : List ℕ) × Shortest (LawfulTo (links (cabling_in b)) (label_for (cabling_in b)) s t) l × (r ≡ Ok (length l + 1)) × (after ≡ placed (s ∷ l) before)
unfolding written_of written_into
route-writes b s t {before} e k l room w =
    let g = accepted-good b e in
    let few = routes.good-route-few g s t k l in
    let fits : length (route_bytes b s t) ≤ length before = omega arith in
    let fine = not-refused b s t e k l in (
      _,
      routes.good-route g s t k l,
      w.answers ∙ rw (fine, le-leb _ _ fits, written_of) (ap Ok (omega arith)),
      w.leaves ∙ rw (fine, le-leb _ _ fits, written_into),
    )

-- 9, RULES 9.1: "the result is longer than the buffer", exactly where nothing else is refused and the route finds no room
pub route-short : (b : List ℕ) (s t room : ℕ)
    → (written_of (route_fault b s t) (route_bytes b s t) room ≡ Err Short) ↔ ((route_fault b s t ≡ Ok tt) × (room < length (route_bytes b s t)))
route-short b s t room = short_means _ room (route_fault b s t) (route-not-short b s t)

-- RULES 5.4: "from a node to itself that is 0 hops"
pub route_home : (b : List ℕ) (s : ℕ) → route_bytes b s s ≡ s ∷ []
route_home b s = ap (λ (l : List ℕ). s ∷ l) (routes.route_home (cabling_in b) s)
