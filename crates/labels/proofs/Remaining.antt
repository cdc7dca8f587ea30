-- On the links of a remaining graph the rule over links is that of RULES 4: the same room, the same candidates, the same choice.
use mathlib.Core.Path.{◌≡◌, sym, ◌∙◌, ap, ap₂}
use mathlib.Core.Bool.{Bool, true}
use Prim.Native.Nat.{ℕ, suc, ◌*◌, ◌-◌}
use lib.Dec.{leb}
use Rattle.finite.specs.Truth.{◌&◌, non}
use Rattle.finite.specs.Sum.{when, count}
use Rattle.finite.proofs.Truth.{no_tf, bcase, refute, and_l}
use Rattle.finite.proofs.Sum.{sum_cong, when_cong}
use Rattle.finite.proofs.Search.{least_by_cong}
use Rattle.graph.specs.Network.{among}
use Rattle.graph.proofs.Walk.{among-at}
use Rattle.graph.proofs.Remaining.{links-degree, splits-cut}
use Rattle.rule.specs.Candidate.{room, candidate, choice}
use Rattle.labels.specs.Links.{room_by, candidate_by, choice_by}

module _ (n : ℕ) (edge : ℕ → ℕ → Bool) (R : ℕ → Bool) where
  pub room-links : (v : ℕ) → R v ≡ true → room_by n (among R edge) v ≡ room n edge R v
  unfolding room_by room
  room-links v h =
      let d = links-degree n edge R v h in
      ap₂ leb (ap₂ ◌*◌ d (ap (λ (x : ℕ). x - 1) d))
      (sum_cong n _ _ (λ u l.
      ap (λ (b : Bool). when b (count n (among R edge u) - 1)) (among-at R edge v u h)
      ∙ when_cong (R u & edge v u) _ _ (λ t. ap (λ (x : ℕ). x - 1) (links-degree n edge R u (and_l _ _ t)))))

  pub candidate-links : (v : ℕ) → candidate_by n (among R edge) R v ≡ candidate n edge R v
  unfolding candidate_by candidate
  candidate-links v =
      bcase (R v) (λ t. ap₂ (λ (a b : Bool). R v & a & non b) (room-links v t) (splits-cut n edge R v))
      (λ t. refute _ (λ h. no_tf (and_l _ _ h) t) ∙ sym (refute _ (λ h. no_tf (and_l _ _ h) t)))

  pub choice-links : choice_by n (among R edge) R ≡ choice n edge R
  unfolding choice_by choice candidate_by
  choice-links =
      least_by_cong (suc n) n _ _ _ _ (λ v l. candidate-links v) (λ v l h. links-degree n edge R v (and_l _ _ h))
