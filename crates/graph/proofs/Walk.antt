-- Laws of walks: put end to end, turned round, carried to other links, and kept inside a closed set; laws of the remaining graph, and of a wider one.
use mathlib.Core.Path.{◌≡◌, refl}
use mathlib.Core.Bool.{Bool, true}
use Prim.Native.Nat.{ℕ, ◌≤◌}
use native.Mathlib.Omega.{arith}
use Rattle.finite.specs.Truth.{◌&◌}
use Rattle.finite.proofs.Truth.{iff, both, and_l, and_r}
use Rattle.graph.specs.Network.{Network, Walk, here, step, among}

pub walk-one : {edge : ℕ → ℕ → Bool} {a b : ℕ} → edge a b ≡ true → Walk edge a b
walk-one h = step h here

pub walk-append : {edge : ℕ → ℕ → Bool} {a b c : ℕ} → Walk edge a b → Walk edge b c → Walk edge a c
walk-append here w = w
walk-append (step h v) w = step h (walk-append v w)

pub walk-map : {edge link : ℕ → ℕ → Bool} → ((a b : ℕ) → edge a b ≡ true → link a b ≡ true) → {a b : ℕ} → Walk edge a b → Walk link a b
walk-map f here = here
walk-map f (step h w) = step (f _ _ h) (walk-map f w)

pub walk_reverse : {edge : ℕ → ℕ → Bool} → ((a b : ℕ) → edge a b ≡ true → edge b a ≡ true) → {a b : ℕ} → Walk edge a b → Walk edge b a
walk_reverse s here = here
walk_reverse s (step h w) = walk-append (walk_reverse s w) (walk-one (s _ _ h))

-- a walk to another node has a first link
pub first-link : {edge : ℕ → ℕ → Bool} {a b : ℕ} → Walk edge a b → (a ≡ b → ⊥) → (u : ℕ) × (edge a u ≡ true)
first-link here d = absurd (d refl)
first-link (step {b = u} h w) d = (u, h)

-- a set that links do not lead out of takes in each walk that begins in it
pub walk-closed : {edge : ℕ → ℕ → Bool} (P : ℕ → Type 0) → ((a b : ℕ) → edge a b ≡ true → P a → P b) → {a b : ℕ} → Walk edge a b → P a → P b
walk-closed P f here p = p
walk-closed P f (step h w) p = walk-closed P f w (f _ _ h p)

-- ---- the remaining graph

pub among-from : (R : ℕ → Bool) (edge : ℕ → ℕ → Bool) (a b : ℕ) → among R edge a b ≡ true → R a ≡ true
unfolding among
among-from R edge a b h = and_l _ _ h

pub among-to : (R : ℕ → Bool) (edge : ℕ → ℕ → Bool) (a b : ℕ) → among R edge a b ≡ true → R b ≡ true
unfolding among
among-to R edge a b h = and_l _ _ (and_r _ _ h)

pub among-edge : (R : ℕ → Bool) (edge : ℕ → ℕ → Bool) (a b : ℕ) → among R edge a b ≡ true → edge a b ≡ true
unfolding among
among-edge R edge a b h = and_r _ _ (and_r _ _ h)

pub edge-among : (R : ℕ → Bool) (edge : ℕ → ℕ → Bool) {a b : ℕ} → R a ≡ true → R b ≡ true → edge a b ≡ true → among R edge a b ≡ true
unfolding among
edge-among R edge x y h = both x (both y h)

-- from a node that remains
pub among-at : (R : ℕ → Bool) (edge : ℕ → ℕ → Bool) (v u : ℕ) → R v ≡ true → among R edge v u ≡ R u & edge v u
among-at R edge v u h =
    iff _ _ (λ t. both (among-to R edge v u t) (among-edge R edge v u t)) (λ t. edge-among R edge h (and_l _ _ t) (and_r _ _ t))

-- the remaining graph of a network is a network
pub among-network : {n : ℕ} {edge : ℕ → ℕ → Bool} (R : ℕ → Bool) → Network n edge → Network n (among R edge)
among-network {edge = edge} R net = record {
  undirected = λ a b h. edge-among R edge (among-to R edge a b h) (among-from R edge a b h) (net.undirected a b (among-edge R edge a b h));
  no_loop = λ a h. net.no_loop a (among-edge R edge a a h);
  inside = λ a b h. net.inside a b (among-edge R edge a b h);
}

-- ---- more nodes

-- a network of m nodes is one of n, if they are no fewer
pub network-wider : (m n : ℕ) → m ≤ n → (edge : ℕ → ℕ → Bool) → Network m edge → Network n edge
network-wider m n few edge net = record {
  undirected = net.undirected;
  no_loop = net.no_loop;
  inside = λ a b h. let l = net.inside a b h in omega arith;
}
