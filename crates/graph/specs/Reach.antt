-- Connectedness decided: a set grows along links until nothing is added. proofs/Connected.antt says that these tests mean the walks of Network.antt.
use Rattle.std.specs.Prelude.{Bool, true, false, ℕ, zero, suc, eqb}
use Rattle.finite.specs.Truth.{◌&◌, ◌or◌, non, same}
use Rattle.finite.specs.Search.{any, all, least}
use Rattle.finite.specs.Sets.{has, set_of, without}
use Rattle.graph.specs.Network.{among, avoid}

-- s, and each node that a link joins to a member of s
unfoldable pub grow : ℕ → (ℕ → ℕ → Bool) → ℕ → ℕ
grow n edge s = set_of n (λ v. has s v or any n (λ u. has s u & edge u v))

-- s grown until nothing is added, k times at the most
unfoldable pub spread : ℕ → ℕ → (ℕ → ℕ → Bool) → ℕ → ℕ
spread zero n edge s = s
spread (suc k) n edge s = let t : ℕ = grow n edge s in elim (eqb t s) [ true ↦ s | false ↦ spread k n edge t ]

-- the nodes that a walk leads to from a node below n that passes p
unfoldable pub reach : ℕ → (ℕ → ℕ → Bool) → (ℕ → Bool) → ℕ
reach n edge p = spread n n edge (set_of n p)

-- every member of R is in the set s
unfoldable pub covers : ℕ → (ℕ → Bool) → ℕ → Bool
covers n R s = all n (λ v. non (R v) or has s v)

-- every member of R is reached from the lowest one
unfoldable pub joined : ℕ → (ℕ → ℕ → Bool) → (ℕ → Bool) → Bool
joined n edge R = covers n R (reach n edge (same (least n R)))

-- any two members of R are joined by a walk among them
unfoldable pub connected : ℕ → (ℕ → ℕ → Bool) → (ℕ → Bool) → Bool
connected n edge R = joined n (among R edge) R

-- the members of R but v are not
unfoldable pub cut : ℕ → (ℕ → ℕ → Bool) → (ℕ → Bool) → ℕ → Bool
cut n edge R v = non (connected n edge (without R v))

-- the same over the links of the remaining graph itself, as a table holds them; there `joined` is the test of connectedness
unfoldable pub splits : ℕ → (ℕ → ℕ → Bool) → (ℕ → Bool) → ℕ → Bool
splits n links R v = non (joined n (avoid v links) (without R v))
