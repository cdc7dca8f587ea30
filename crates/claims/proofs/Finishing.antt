-- What being done changes: the claimant holds nothing more, one step more is made, and nothing changes for the others.
use mathlib.Core.Path.{◌≡◌, sym, ◌∙◌, ap}
use mathlib.Core.Bool.{Bool, true, false}
use mathlib.Core.List.{List}
use Prim.Native.Nat.{ℕ, suc, ◌+◌, ◌<◌}
use native.Mathlib.Omega.{arith}
use lib.ListN.{length}
use Rattle.finite.specs.Truth.{◌&◌, ◌or◌, non, same}
use Rattle.finite.specs.Sum.{when}
use Rattle.finite.proofs.Truth.{no_tf, bcase, or_l, or_false, same-eq, same-ne, ne_same, same_refl}
use Rattle.finite.proofs.Sum.{sum_cong, when_true, when_false, sum-one-more}
use Rattle.claims.specs.Claims.{Progress, Keeps, kept_in, holds, finishing, WithinItinerary, Exclusive, made}
use Rattle.claims.proofs.Holding.{done-free}

module _ (s : Progress) (m : ℕ) where
  pub done-here : (finishing s m).done m ≡ true
  unfolding finishing
  done-here = or_l _ (same_refl m)

  pub done-there : (c : ℕ) → (m ≡ c → ⊥) → (finishing s m).done c ≡ s.done c
  unfolding finishing
  done-there c d = ap (λ (b : Bool). b or s.done c) (ne_same d) ∙ or_false _

  pub finishing-made : (k : ℕ) → m < k → s.done m ≡ false → made k (finishing s m) ≡ suc (made k s)
  unfolding made finishing
  finishing-made k l d = sum_cong k _ _ (λ c b. go c) ∙ sum-one-more k m _ l
    where
      go : (c : ℕ) → s.taken c + when (same m c or s.done c) 1 ≡ (s.taken c + when (s.done c) 1) + when (same m c) 1
      go c =
          bcase (same m c)
          (λ t.
          let a = when_true 1 (or_l (s.done c) t) in
          let b = when_true 1 t in
          let z = when_false 1 (ap s.done (sym (same-eq m c t)) ∙ d) in
          omega arith)
          (λ t.
          let a = ap (λ (b : Bool). when (b or s.done c) 1) t ∙ ap (λ (b : Bool). when b 1) (or_false (s.done c)) in
          let b = when_false 1 t in
          omega arith)

module _ (itinerary : ℕ → List ℕ) (s : Progress) (m : ℕ) where
  pub finishing-lawful : (k : ℕ) → WithinItinerary k itinerary s → s.taken m ≡ length (itinerary m) → WithinItinerary k itinerary (finishing s m)
  unfolding finishing
  finishing-lawful k lawful e = record {
    within = lawful.within;
    finished = λ c l h.
        bcase (same m c) (λ t. rw (sym (same-eq m c t)) e) (λ t. lawful.finished c l (sym (done-there s m c (same-ne m c t)) ∙ h));
  }

module _ (itinerary : ℕ → List ℕ) (keeps : Keeps) (s : Progress) (m : ℕ) where
  -- for the others nothing changes
  pub finishing-other : (c r : ℕ) → (m ≡ c → ⊥) → holds itinerary keeps (finishing s m) c r ≡ holds itinerary keeps s c r
  unfolding holds finishing
  finishing-other c r d = ap (λ (b : Bool). non b & kept_in (itinerary c) (λ i. keeps c i (s.taken c)) (s.taken c) r) (done-there s m c d)

  -- it holds nothing more
  pub finishing-free : (r : ℕ) → holds itinerary keeps (finishing s m) m r ≡ false
  finishing-free r = done-free itinerary keeps (finishing s m) m r (done-here s m)

  pub finishing_exclusive : (k : ℕ) → Exclusive k itinerary keeps s → Exclusive k itinerary keeps (finishing s m)
  finishing_exclusive k one a b r i j x y = one a b r i j (before a x) (before b y)
    where
      before : (c : ℕ) → holds itinerary keeps (finishing s m) c r ≡ true → holds itinerary keeps s c r ≡ true
      before c h =
          bcase (same m c) (λ t. no_tf h (ap (λ (x : ℕ). holds itinerary keeps (finishing s m) x r) (sym (same-eq m c t)) ∙ finishing-free r))
          (λ t. sym (finishing-other c r (same-ne m c t)) ∙ h)
