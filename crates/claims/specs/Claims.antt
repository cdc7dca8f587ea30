-- Claimants 0 .. k - 1, each with an itinerary: the resources it takes, one after the other. Some it may give back on the way, and all the rest together
-- when it is done.
use Rattle.std.specs.Prelude.{◌≡◌, Bool, true, false, List, ℕ, suc, ◌+◌, ◌≤◌, ◌<◌, length, get_or}
use Rattle.finite.specs.Truth.{◌&◌, ◌or◌, non, same}
use Rattle.finite.specs.Sum.{sum_to, when}
use Rattle.finite.specs.Search.{any}

-- how many resources each claimant has taken so far, and whether it is done
pub record Progress : Type 0 where
  pub taken : ℕ → ℕ
  pub done : ℕ → Bool

-- which of the resources taken are kept: keeps m i j, whether claimant m with j taken keeps number i of them
abbrev pub Keeps : Type 0
Keeps = ℕ → ℕ → ℕ → Bool

-- what is just taken is kept, and what is given back stays so
pub record Keeping (keeps : Keeps) : Type 0 where
  pub new : (m j : ℕ) → keeps m j (suc j) ≡ true
  pub old : (m i j : ℕ) → keeps m i (suc j) ≡ true → keeps m i j ≡ true

-- resource r is among the first j of the itinerary, as one of those that are kept
unfoldable pub kept_in : List ℕ → (ℕ → Bool) → ℕ → ℕ → Bool
kept_in itinerary kept j r = any j (λ i. kept i & same (get_or itinerary i 0) r)

-- claimant m holds r: it has taken it, keeps it, and is not done
unfoldable pub holds : (ℕ → List ℕ) → Keeps → Progress → ℕ → ℕ → Bool
holds itinerary keeps s m r = non (s.done m) & kept_in (itinerary m) (λ i. keeps m i (s.taken m)) (s.taken m) r

-- the resource that claimant m wants next
abbrev pub wanted : (ℕ → List ℕ) → Progress → ℕ → ℕ
wanted itinerary s m = get_or (itinerary m) (s.taken m) 0

-- the steps that can be made: take the next resource when nobody holds it, or be done when there is none to take
pub data CanStep (k : ℕ) (itinerary : ℕ → List ℕ) (keeps : Keeps) (s : Progress) (m : ℕ) : Type 0 where
  can-take : s.done m ≡ false → s.taken m < length (itinerary m)
      → ((c : ℕ) → c < k → holds itinerary keeps s c (wanted itinerary s m) ≡ false) → CanStep k itinerary keeps s m
  can_finish : s.done m ≡ false → s.taken m ≡ length (itinerary m) → CanStep k itinerary keeps s m

-- some claimant can make a step
pub record SomeCanStep (k : ℕ) (itinerary : ℕ → List ℕ) (keeps : Keeps) (s : Progress) : Type 0 where
  pub at : ℕ
  pub low : at < k
  pub can : CanStep k itinerary keeps s at

-- what a step leaves: one claimant has taken one resource more, or is done
unfoldable pub taking : Progress → ℕ → Progress
taking s m = record { taken = λ c. s.taken c + when (same m c) 1; done = s.done }

unfoldable pub finishing : Progress → ℕ → Progress
finishing s m = record { taken = s.taken; done = λ c. same m c or s.done c }

-- ranks rise strictly along each itinerary
abbrev pub Rising : ℕ → (ℕ → List ℕ) → (ℕ → ℕ) → Type 0
Rising k itinerary rank =
    (m : ℕ) → m < k → (i j : ℕ) → i < j → j < length (itinerary m) → rank (get_or (itinerary m) i 0) < rank (get_or (itinerary m) j 0)

-- nobody has taken more than there is, and who is done has taken all
pub record WithinItinerary (k : ℕ) (itinerary : ℕ → List ℕ) (s : Progress) : Type 0 where
  pub within : (m : ℕ) → m < k → s.taken m ≤ length (itinerary m)
  pub finished : (m : ℕ) → m < k → s.done m ≡ true → s.taken m ≡ length (itinerary m)

-- no resource has two holders
abbrev pub Exclusive : ℕ → (ℕ → List ℕ) → Keeps → Progress → Type 0
Exclusive k itinerary keeps s =
    (a b r : ℕ) → a < k → b < k → holds itinerary keeps s a r ≡ true → holds itinerary keeps s b r ≡ true → a ≡ b

-- the steps made, and the steps there are
unfoldable pub made : ℕ → Progress → ℕ
made k s = sum_to k (λ m. s.taken m + when (s.done m) 1)

unfoldable pub whole : ℕ → (ℕ → List ℕ) → ℕ
whole k itinerary = sum_to k (λ m. length (itinerary m) + 1)
