-- The lowest node of the first n outside what the flood from node 0 has seen is the lowest that is not reached.
use mathlib.Core.Path.{◌≡◌, refl, ◌∙◌, ap}
use mathlib.Core.Bool.{Bool, true}
use Prim.Native.Nat.{ℕ, ◌≤◌}
use Rattle.finite.specs.Truth.{◌&◌, non, same, below}
use Rattle.finite.specs.Search.{least}
use Rattle.finite.specs.Sets.{has, set_of}
use Rattle.finite.proofs.Truth.{true-non}
use Rattle.finite.proofs.Search.{least_cong}
use Rattle.finite.proofs.Sets.{has_out, has-set_of}
use Rattle.graph.specs.Reach.{reach}
use Rattle.graph.proofs.Reach.{reach-lt, reach_cong}
use Rattle.nodes.specs.Limits.{max_nodes}
use Rattle.nodes.proofs.Words.{lowest-set_of}
use Rattle.cabling.specs.Faults.{unreached}

module _ (edge : ℕ → ℕ → Bool) where
  pub unreached_past : (u : ℕ) → max_nodes ≤ u → unreached max_nodes edge u ≡ true
  unfolding unreached
  unreached_past u l = true-non (has_out _ max_nodes u (reach-lt max_nodes edge (same 0)) l)

  pub apart_word : (n : ℕ) {one seen first left v : ℕ} → one ≡ set_of max_nodes (same 0) → seen ≡ reach max_nodes edge (has one)
      → first ≡ set_of max_nodes (λ u. below u n) → left ≡ set_of max_nodes (λ u. has first u & non (has seen u)) → v ≡ least max_nodes (has left)
      → v ≡ least max_nodes (λ u. below u n & unreached max_nodes edge u)
  unfolding unreached
  apart_word n {one} {seen} {first} {left} eo es ef el ev =
      ev ∙ ap (λ (w : ℕ). least max_nodes (has w)) el ∙ lowest-set_of max_nodes _
      ∙ least_cong max_nodes _ _ (λ u l.
      ap (λ (b : Bool). b & non (has seen u)) (ap (λ (w : ℕ). has w u) ef ∙ has-set_of max_nodes _ u l)
      ∙ ap (λ (w : ℕ). below u n & non (has w u))
      (es ∙ reach_cong max_nodes edge edge (λ a b k j. refl) (has one) (same 0) (λ x k. ap (λ (w : ℕ). has w x) eo ∙ has-set_of max_nodes _ x k)))
