-- No deadlock: where ranks rise along each itinerary, some claimant can make a step until all are done.
use mathlib.Core.Path.{◌≡◌, ap}
use mathlib.Core.Bool.{false}
use mathlib.Core.List.{List}
use mathlib.Core.Logic.{⊎_elim}
use Prim.Native.Nat.{ℕ, ◌-◌, ◌≤◌, ◌<◌}
use native.Mathlib.Omega.{arith}
use lib.ListN.{length}
use Rattle.finite.specs.Truth.{non, below}
use Rattle.finite.specs.Sum.{sum_to}
use Rattle.finite.specs.Search.{Some}
use Rattle.finite.proofs.Truth.{bcase, refute, non-true, true-non, below-lt, below-le}
use Rattle.finite.proofs.Sum.{sum_term}
use Rattle.finite.proofs.Search.{find, smallest}
use Rattle.claims.specs.Claims.{Progress, Keeps, holds, wanted, CanStep, can-take, can_finish, SomeCanStep, Rising, WithinItinerary}
use Rattle.claims.proofs.Holding.{Held, holds-held}

module _ (k : ℕ) (itinerary : ℕ → List ℕ) (keeps : Keeps) (rank : ℕ → ℕ) (s : Progress) (lawful : WithinItinerary k itinerary s) (rising : Rising k itinerary rank) where
  -- the rank of what m wants next
  abbrev height : ℕ → ℕ
  height m = rank (wanted itinerary s m)

  abbrev total : ℕ
  total = sum_to k height

  -- nobody waits for itself
  pub not_own : (m : ℕ) → m < k → s.taken m < length (itinerary m) → holds itinerary keeps s m (wanted itinerary s m) ≡ false
  not_own m l b =
      refute _ (λ t.
      let h = holds-held itinerary keeps s m _ t in
      let up = rising m l h.at (s.taken m) h.before b in
      let same_rank = ap rank h.is in
      omega arith)

  -- who holds what m wants can finish, or wants something that ranks higher
  holder_steps : (m c : ℕ) → c < k → Held itinerary keeps s c (wanted itinerary s m) → height c ≤ height m → CanStep k itinerary keeps s c
  holder_steps m c l h top =
      bcase (below (s.taken c) (length (itinerary c)))
      (λ t.
      let up = rising c l h.at (s.taken c) h.before (below-lt _ _ t) in
      let same_rank = ap rank h.is in
      absurd (omega arith))
      (λ t. let a = below-le _ _ t in let b = lawful.within c l in can_finish h.not_done (omega arith))

  -- the one that wants the highest can step, or is kept from it by one that can finish
  highest_steps : (m : ℕ) → m < k → s.done m ≡ false → ((c : ℕ) → c < k → s.done c ≡ false → height c ≤ height m) → SomeCanStep k itinerary keeps s
  highest_steps m l d top =
      bcase (below (s.taken m) (length (itinerary m)))
      (λ t.
      ⊎_elim
      (λ x.
      let h = holds-held itinerary keeps s x.at _ x.fact in
      record { at = x.at; low = x.low; can = holder_steps m x.at x.low h (top x.at x.low h.not_done) })
      (λ none. record { at = m; low = l; can = can-take d (below-lt _ _ t) none })
      (find k (λ c. holds itinerary keeps s c (wanted itinerary s m))))
      (λ t.
      let a = below-le _ _ t in
      let b = lawful.within m l in
      record { at = m; low = l; can = can_finish d (omega arith) })

  -- while some claimant is not done, some claimant can make a step
  pub some-can-step : Some k (λ m. non (s.done m)) → SomeCanStep k itinerary keeps s
  some-can-step x =
      let h = smallest k (λ m. non (s.done m)) (λ m. total - height m) x in
      let here = sum_term k height h.at h.low in
      highest_steps h.at h.low (non-true _ h.fact) (λ c l d.
      let there = sum_term k height c l in
      let least = h.bound c l (true-non d) in
      omega arith)
