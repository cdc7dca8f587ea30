-- RULES 4.2 and RULES 4.3: which remaining nodes are candidates, and which of them is chosen. R is the set of remaining nodes.
use Rattle.std.specs.Prelude.{Bool, ℕ, suc, ◌*◌, ◌-◌, leb}
use Rattle.finite.specs.Truth.{◌&◌, non}
use Rattle.finite.specs.Sum.{sum_if}
use Rattle.finite.specs.Search.{least_by, LeastBy}
use Rattle.graph.specs.Network.{degree}
use Rattle.graph.specs.Reach.{cut}

-- RULES 4.2: "d(d-1) at most the sum, over its remaining neighbours, of (the neighbour's remaining degree minus 1), where d is its own remaining degree"
unfoldable pub room : ℕ → (ℕ → ℕ → Bool) → (ℕ → Bool) → ℕ → Bool
room n edge R v =
    leb (degree n edge R v * (degree n edge R v - 1)) (sum_if n (λ u. R u & edge v u) (λ u. degree n edge R u - 1))

-- RULES 4.2: "A candidate is a remaining node that is no cut node of the remaining graph and has" that
unfoldable pub candidate : ℕ → (ℕ → ℕ → Bool) → (ℕ → Bool) → ℕ → Bool
candidate n edge R v = R v & room n edge R v & non (cut n edge R v)

-- RULES 4.3: "Of the candidates the one of least remaining degree is chosen, and among equals the one of lowest number." n where there is no candidate
unfoldable pub choice : ℕ → (ℕ → ℕ → Bool) → (ℕ → Bool) → ℕ
choice n edge R = least_by (suc n) n (degree n edge R) (candidate n edge R)

abbrev pub Chosen : ℕ → (ℕ → ℕ → Bool) → (ℕ → Bool) → ℕ → Type 0
Chosen n edge R v = LeastBy n (degree n edge R) (candidate n edge R) v
