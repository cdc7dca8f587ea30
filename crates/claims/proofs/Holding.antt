-- What it means to hold a resource.
use mathlib.Core.Path.{◌≡◌, ◌∙◌, ap}
use mathlib.Core.Bool.{Bool, true, false}
use mathlib.Core.List.{List}
use Prim.Native.Nat.{ℕ, ◌<◌}
use lib.ListN.{get_or}
use Rattle.finite.specs.Truth.{◌&◌, same}
use Rattle.finite.proofs.Truth.{no_tf, refute, both, and_l, and_r, and_true, non-true, true-non, same-eq, same_refl}
use Rattle.finite.proofs.Search.{any_some, some-any}
use Rattle.claims.specs.Claims.{Progress, Keeps, kept_in, holds}

-- a claimant that is not done holds r: it took r as number `at`
pub record Held (itinerary : ℕ → List ℕ) (keeps : Keeps) (s : Progress) (m r : ℕ) : Type 0 where
  pub not_done : s.done m ≡ false
  pub at : ℕ
  pub before : at < s.taken m
  pub kept : keeps m at (s.taken m) ≡ true
  pub is : get_or (itinerary m) at 0 ≡ r

pub holds-held : (itinerary : ℕ → List ℕ) (keeps : Keeps) (s : Progress) (m r : ℕ) → holds itinerary keeps s m r ≡ true → Held itinerary keeps s m r
unfolding holds kept_in
holds-held itinerary keeps s m r h =
    let i = any_some (s.taken m) (λ i. keeps m i (s.taken m) & same (get_or (itinerary m) i 0) r) (and_r _ _ h) in
    record { not_done = non-true _ (and_l _ _ h); at = i.at; before = i.low; kept = and_l _ _ i.fact; is = same-eq _ _ (and_r _ _ i.fact) }

-- who is done holds nothing
pub done-free : (itinerary : ℕ → List ℕ) (keeps : Keeps) (s : Progress) (m r : ℕ) → s.done m ≡ true → holds itinerary keeps s m r ≡ false
done-free itinerary keeps s m r d = refute _ (λ h. no_tf d (holds-held itinerary keeps s m r h).not_done)

-- who is not done holds what it keeps of what it has taken
pub undone_holds : (itinerary : ℕ → List ℕ) (keeps : Keeps) (s : Progress) (m r : ℕ) → s.done m ≡ false
    → holds itinerary keeps s m r ≡ kept_in (itinerary m) (λ i. keeps m i (s.taken m)) (s.taken m) r
unfolding holds
undone_holds itinerary keeps s m r d = ap (λ (b : Bool). b & kept_in (itinerary m) (λ i. keeps m i (s.taken m)) (s.taken m) r) (true-non d) ∙ and_true _

-- so it holds each that it has taken and keeps
pub taken-holds : (itinerary : ℕ → List ℕ) (keeps : Keeps) (s : Progress) (m i : ℕ) → s.done m ≡ false → i < s.taken m → keeps m i (s.taken m) ≡ true
    → holds itinerary keeps s m (get_or (itinerary m) i 0) ≡ true
unfolding kept_in
taken-holds itinerary keeps s m i d l k = undone_holds itinerary keeps s m _ d ∙ some-any (s.taken m) _ i l (both k (same_refl _))
