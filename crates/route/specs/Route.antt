-- The route call: what it refuses, and what it writes. The order of refusals: 1 to 8, as read's, then 10, and 9 at the last.
use Rattle.std.specs.Prelude.{true, false, List, ◌∷◌, ℕ, Err, Ok}
use Rattle.finite.specs.Truth.{◌&◌, below}
use Rattle.refusal.specs.declared.Refusal.TheVariants.{Unknown}
use Rattle.refusal.specs.Verdicts.{and_then, Verdict}
use Rattle.fabric.specs.Fabric.{route_for}
use Rattle.format.specs.Contents.{nodes_in}
use Rattle.image.specs.Image.{cabling_in}
use Rattle.image.specs.Faults.{image_fault}

-- 10, RULES 9.1: "Route: a node ≥ N.", at place 0
unfoldable pub ends_fault : List ℕ → ℕ → ℕ → Verdict
ends_fault b s t = elim (below s (nodes_in b) & below t (nodes_in b)) [ true ↦ Ok tt | false ↦ Err (Unknown 0) ]

-- RULES 7.6: "Route takes either image, a source and a destination"
abbrev pub route_fault : List ℕ → ℕ → ℕ → Verdict
route_fault b s t = and_then (image_fault b) (ends_fault b s t)

-- RULES 7.6: "and writes hops + 1 node numbers, source first"
abbrev pub route_bytes : List ℕ → ℕ → ℕ → List ℕ
route_bytes b s t = s ∷ route_for (cabling_in b) s t
