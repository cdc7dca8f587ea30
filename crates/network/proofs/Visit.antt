-- One turn of the flood over the code's sets is one visit of the flood over sets.
use mathlib.Core.Path.{◌≡◌, ◌∙◌, ap}
use mathlib.Core.Bool.{Bool}
use mathlib.Core.List.{List}
use Prim.Native.Nat.{ℕ, ◌^◌, ◌<◌}
use Rattle.finite.specs.Truth.{◌&◌, ◌or◌, non}
use Rattle.finite.specs.Search.{least}
use Rattle.finite.specs.Sets.{has, set_of, without}
use Rattle.finite.proofs.Sets.{has-set_of}
use Rattle.graph.proofs.Flood.{Visit}
use Rattle.nodes.specs.Limits.{max_nodes}
use Rattle.nodes.proofs.Words.{lowest-lt, lowest_in}
use Rattle.network.specs.Table.{neighbours_of, edge_of}

pub visit : (t : List ℕ) (seen front : ℕ) {v row found seen' rest front' : ℕ} → front < 2 ^ max_nodes → (front ≡ 0 → ⊥)
    → v ≡ least max_nodes (has front) → row ≡ neighbours_of t v → found ≡ set_of max_nodes (λ u. has row u & non (has seen u))
    → seen' ≡ set_of max_nodes (λ u. has seen u or has found u) → rest ≡ set_of max_nodes (without (has front) v)
    → front' ≡ set_of max_nodes (λ u. has rest u or has found u) → Visit max_nodes (edge_of t) (has seen) (has front) v (has seen') (has front')
unfolding edge_of
visit t seen front {found = found} l z low r f s w g = record {
  low = rw low (lowest-lt max_nodes front l z);
  from = rw low (lowest_in max_nodes front l z);
  found = has found;
  finds = λ u k. rw (f, r) (has-set_of max_nodes _ u k);
  sees = λ u k. rw s (has-set_of max_nodes _ u k);
  moves = λ u k. rw (g, w) (has-set_of max_nodes _ u k ∙ ap (λ (t : Bool). t or has found u) (has-set_of max_nodes _ u k));
}
