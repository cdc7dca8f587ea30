-- What taking the next resource changes: the claimant holds that one and what it still keeps, one step more is made, and nothing changes for the others.
use mathlib.Core.Path.{◌≡◌, refl, sym, ◌∙◌, ap, ap₂}
use mathlib.Core.Bool.{Bool, true, false}
use mathlib.Core.List.{List}
use Prim.Native.Nat.{ℕ, suc, ◌+◌, ◌<◌}
use native.Mathlib.Nat.{add-zero}
use native.Mathlib.Numerals.{add-one}
use native.Mathlib.Omega.{arith}
use lib.ListN.{length, get_or}
use Rattle.finite.specs.Truth.{◌&◌, ◌or◌, non, same}
use Rattle.finite.specs.Sum.{when}
use Rattle.finite.proofs.Truth.{no_tf, bcase, both, and_l, and_r, and_true, or_case, same-eq, same-ne, ne_same, same_refl}
use Rattle.finite.proofs.Sum.{sum_cong, when_true, when_false, sum-one-more}
use Rattle.finite.proofs.Search.{any-more, any_some, some-any, any_cong}
use Rattle.claims.specs.Claims.{Progress, Keeps, kept_in, holds, wanted, taking, Keeping, WithinItinerary, Exclusive, made}
use Rattle.claims.proofs.Holding.{undone_holds}

module _ (s : Progress) (m : ℕ) where
  pub taken_here : (taking s m).taken m ≡ suc (s.taken m)
  unfolding taking
  taken_here = ap (λ (x : ℕ). s.taken m + x) (when_true 1 (same_refl m)) ∙ add-one _

  pub taken-there : (c : ℕ) → (m ≡ c → ⊥) → (taking s m).taken c ≡ s.taken c
  unfolding taking
  taken-there c d = ap (λ (x : ℕ). s.taken c + x) (when_false 1 (ne_same d)) ∙ add-zero _

  pub taking-done : (c : ℕ) → (taking s m).done c ≡ s.done c
  unfolding taking
  taking-done c = refl

  pub taking-made : (k : ℕ) → m < k → made k (taking s m) ≡ suc (made k s)
  unfolding made taking
  taking-made k l =
      sum_cong k _ _ (λ c b. let e : (s.taken c + when (same m c) 1) + when (s.done c) 1 ≡ (s.taken c + when (s.done c) 1) + when (same m c) 1 = omega arith in e)
      ∙ sum-one-more k m _ l

module _ (itinerary : ℕ → List ℕ) (s : Progress) (m : ℕ) where
  pub taking-lawful : (k : ℕ) → WithinItinerary k itinerary s → s.done m ≡ false → s.taken m < length (itinerary m) → WithinItinerary k itinerary (taking s m)
  taking-lawful k lawful d b = record {
    within = λ c l.
        bcase (same m c) (λ t. let e = same-eq m c t in rw (sym e) (let h = taken_here s m in omega arith))
        (λ t. let h = taken-there s m c (same-ne m c t) in let w = lawful.within c l in omega arith);
    finished = λ c l h.
        let was = sym (taking-done s m c) ∙ h in
        taken-there s m c (λ e. no_tf was (ap s.done (sym e) ∙ d)) ∙ lawful.finished c l was;
  }

module _ (itinerary : ℕ → List ℕ) (keeps : Keeps) (s : Progress) (m : ℕ) where
  -- for the others nothing changes
  pub taking-other : (c r : ℕ) → (m ≡ c → ⊥) → holds itinerary keeps (taking s m) c r ≡ holds itinerary keeps s c r
  unfolding holds
  taking-other c r d = ap₂ (λ (x : Bool) (j : ℕ). non x & kept_in (itinerary c) (λ i. keeps c i j) j r) (taking-done s m c) (taken-there s m c d)

  module _ (keeping : Keeping keeps) (d : s.done m ≡ false) where
    -- what it keeps of what it had taken, once it has taken one more
    abbrev still : ℕ → Bool
    still r = kept_in (itinerary m) (λ i. keeps m i (suc (s.taken m))) (s.taken m) r

    -- it held that
    still-held : (r : ℕ) → still r ≡ true → holds itinerary keeps s m r ≡ true
    unfolding kept_in
    still-held r h =
        let x = any_some (s.taken m) _ h in
        undone_holds itinerary keeps s m r d
        ∙ some-any (s.taken m) _ x.at x.low (both (keeping.old m x.at (s.taken m) (and_l _ _ x.fact)) (and_r _ _ x.fact))

    -- it holds what it wanted, and what it still keeps
    pub taking-holds : (r : ℕ) → holds itinerary keeps (taking s m) m r ≡ same (wanted itinerary s m) r or still r
    unfolding kept_in
    taking-holds r =
        undone_holds itinerary keeps (taking s m) m r (taking-done s m m ∙ d)
        ∙ ap (λ (j : ℕ). kept_in (itinerary m) (λ i. keeps m i j) j r) (taken_here s m) ∙ any-more (s.taken m) _
        ∙ ap (λ (b : Bool). (b & same (wanted itinerary s m) r) or still r) (keeping.new m (s.taken m))
        ∙ ap (λ (b : Bool). b or still r) (and_true _)

    -- where it gives nothing back by this step: what it wanted, and what it held
    pub taking-kept : ((i : ℕ) → i < s.taken m → keeps m i (suc (s.taken m)) ≡ keeps m i (s.taken m))
        → (r : ℕ) → holds itinerary keeps (taking s m) m r ≡ same (wanted itinerary s m) r or holds itinerary keeps s m r
    unfolding kept_in
    taking-kept kept r =
        taking-holds r
        ∙ ap (λ (b : Bool). same (wanted itinerary s m) r or b)
        (any_cong (s.taken m) _ _ (λ i l. ap (λ (b : Bool). b & same (get_or (itinerary m) i 0) r) (kept i l)) ∙ sym (undone_holds itinerary keeps s m r d))

    -- a holder after the step took the resource just now, or held it before
    new_or_held {ℓ} : {A : Type ℓ} (c r : ℕ) → holds itinerary keeps (taking s m) c r ≡ true
        → (m ≡ c → wanted itinerary s m ≡ r → A) → (holds itinerary keeps s c r ≡ true → A) → A
    new_or_held c r h new old =
        bcase (same m c)
        (λ t.
        let e = same-eq m c t in
        or_case _ _ (sym (taking-holds r) ∙ ap (λ (x : ℕ). holds itinerary keeps (taking s m) x r) e ∙ h) (λ q. new e (same-eq _ _ q))
        (λ q. old (ap (λ (x : ℕ). holds itinerary keeps s x r) (sym e) ∙ still-held r q)))
        (λ t. old (sym (taking-other c r (same-ne m c t)) ∙ h))

    -- a resource that nobody held has one holder then
    pub taking_exclusive : (k : ℕ) → Exclusive k itinerary keeps s → ((c : ℕ) → c < k → holds itinerary keeps s c (wanted itinerary s m) ≡ false)
        → Exclusive k itinerary keeps (taking s m)
    taking_exclusive k one free a b r i j x y =
        new_or_held a r x
        (λ e w. new_or_held b r y (λ f v. sym e ∙ f) (λ v. no_tf v (ap (holds itinerary keeps s b) (sym w) ∙ free b j)))
        (λ w. new_or_held b r y (λ f v. no_tf w (ap (holds itinerary keeps s a) (sym v) ∙ free a i)) (one a b r i j w))
