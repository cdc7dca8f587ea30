-- Counting: never more steps than there are, and all of them exactly when everybody is done; then nobody holds anything.
use mathlib.Core.Path.{◌≡◌, sym, ap₂}
use mathlib.Core.Bool.{true, false}
use mathlib.Core.List.{List}
use mathlib.Core.Logic.{◌↔◌}
use Prim.Native.Nat.{ℕ, ◌+◌, ◌≤◌, ◌<◌}
use native.Mathlib.Nat.{add-le-add, le_of_eq}
use native.Mathlib.Omega.{arith}
use lib.ListN.{length}
use Rattle.finite.specs.Sum.{when}
use Rattle.finite.proofs.Truth.{bcase}
use Rattle.finite.proofs.Sum.{sum_cong, sum-le, when-le, when_true, when_false, sum_equal}
use Rattle.claims.specs.Claims.{Progress, Keeps, holds, WithinItinerary, made, whole}
use Rattle.claims.proofs.Holding.{done-free}

module _ (k : ℕ) (itinerary : ℕ → List ℕ) (s : Progress) (lawful : WithinItinerary k itinerary s) where
  term_le : (m : ℕ) → m < k → s.taken m + when (s.done m) 1 ≤ length (itinerary m) + 1
  term_le m l = add-le-add (lawful.within m l) (when-le (s.done m) 1)

  pub made-le : made k s ≤ whole k itinerary
  unfolding made whole
  made-le = sum-le k _ _ term_le

  pub made-whole : (made k s ≡ whole k itinerary) ↔ ((m : ℕ) → m < k → s.done m ≡ true)
  unfolding made whole
  made-whole = (
    λ e m l.
        let t = sum_equal k _ _ term_le (le_of_eq (sym e)) m l in
        let w = lawful.within m l in
        bcase (s.done m) (λ d. d) (λ d. let z = when_false 1 d in absurd (omega arith)),
    λ h. sum_cong k _ _ (λ m l. ap₂ ◌+◌ (lawful.finished m l (h m l)) (when_true 1 (h m l))),
  )

-- when everybody is done, nobody holds anything
pub all-free : (k : ℕ) (itinerary : ℕ → List ℕ) (keeps : Keeps) (s : Progress) → ((m : ℕ) → m < k → s.done m ≡ true)
    → (m : ℕ) → m < k → (r : ℕ) → holds itinerary keeps s m r ≡ false
all-free k itinerary keeps s h m l r = done-free itinerary keeps s m r (h m l)
