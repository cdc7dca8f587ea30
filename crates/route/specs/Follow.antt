-- How the code follows the entries of a fabric, whatever bytes it holds. Only the contract of a private function cites this.
use Rattle.std.specs.Prelude.{List, ◌∷◌, ℕ, ◌+◌}
use Rattle.hops.specs.Hop.{hop_within, walk_by}
use Rattle.fabric.specs.declared.Fabric.{Fabric}

-- RULES 7.6: "It finds each next node and class by hop (7.5)": the source, and the nodes that hop leads over
unfoldable pub followed : Fabric → ℕ → ℕ → List ℕ
followed f s t = s ∷ walk_by (λ v class. hop_within f.labels f.free f.falling f.nodes v class t) t (f.nodes + f.nodes) 0 s
