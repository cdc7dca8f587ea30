-- A lawful path read backwards is lawful, over undirected links and any labels.
use mathlib.Core.Path.{◌≡◌, refl, ◌∙◌, ap}
use mathlib.Core.Bool.{Bool, true}
use mathlib.Core.List.{List, [], ◌∷◌}
use Prim.Native.Nat.{ℕ, ◌+◌}
use native.Mathlib.Omega.{arith}
use lib.ListN.{length}
use Rattle.finite.specs.Truth.{◌&◌, non}
use Rattle.finite.proofs.Truth.{both, and_l, and_r, and_comm, same_comm}
use Rattle.lawful.specs.Turn.{prohibited}
use Rattle.lawful.specs.Path.{onward, permitted, LawfulTo, Shortest}

-- the nodes after the end of l, on the way back over l and then on over back
abbrev turned : ℕ → List ℕ → List ℕ → List ℕ
turned x [] back = back
turned x (y ∷ l) back = turned y l (x ∷ back)

-- at x the way back goes on from l
abbrev meets : (ℕ → ℕ) → ℕ → List ℕ → List ℕ → Bool
meets label x [] back = true
meets label x (y ∷ l) back = onward y back & permitted label y x back

turned-length : (x : ℕ) (l back : List ℕ) → length (turned x l back) ≡ length l + length back
turned-length x [] back = omega arith
turned-length x (y ∷ l) back = let e = turned-length y l (x ∷ back) in omega arith

prohibited_comm : (label : ℕ → ℕ) (b a c : ℕ) → prohibited label b a c ≡ prohibited label c a b
unfolding prohibited
prohibited_comm label b a c = and_comm _ _

module _ (edge : ℕ → ℕ → Bool) (label : ℕ → ℕ) (undirected : (a b : ℕ) → edge a b ≡ true → edge b a ≡ true) where
  next-meets : (x y : ℕ) (l back : List ℕ) → onward x l ≡ true → permitted label x y l ≡ true → meets label y l (x ∷ back) ≡ true
  next-meets x y [] back o p = refl
  next-meets x y (z ∷ l) back o p = both (ap non (same_comm z x) ∙ o) (ap non (prohibited_comm label z y x) ∙ p)

  turned-lawful : (x t : ℕ) (l back : List ℕ) (v : ℕ) → LawfulTo edge label x t l → LawfulTo edge label x v back → meets label x l back ≡ true
      → LawfulTo edge label t v (turned x l back)
  turned-lawful x t [] back v h b m = rw (← h.arrives) b
  turned-lawful x t (y ∷ l) back v h b m =
      turned-lawful y t l (x ∷ back) v
      (record { path = and_r _ _ (and_r _ _ h.path); lawful = and_r _ _ h.lawful; arrives = h.arrives })
      (record {
        path = both (undirected x y (and_l _ _ h.path)) (both (and_l _ _ m) b.path);
        lawful = both (and_r _ _ m) b.lawful;
        arrives = b.arrives;
      })
      (next-meets x y l back (and_l _ _ (and_r _ _ h.path)) (and_l _ _ h.lawful))

  -- from t back to v lawfully in as many hops
  pub lawful_reverse : (v t : ℕ) (l : List ℕ) → LawfulTo edge label v t l → (m : List ℕ) × LawfulTo edge label t v m × (length m ≡ length l)
  lawful_reverse v t l h = (turned v l [], turned-lawful v t l [] v h (record { path = refl; lawful = refl; arrives = refl }) (start l), turned-length v l [] ∙ omega arith)
    where
      start : (l : List ℕ) → meets label v l [] ≡ true
      start [] = refl
      start (y ∷ l) = both refl refl

  -- so the shortest lawful lengths there and back are one
  pub shortest_reverse : (v t : ℕ) (l m : List ℕ) → Shortest (LawfulTo edge label v t) l → Shortest (LawfulTo edge label t v) m
      → length l ≡ length m
  shortest_reverse v t l m a b =
      let (x, p, e) = lawful_reverse v t l a.is in
      let (y, q, f) = lawful_reverse t v m b.is in
      let i = b.least x p in
      let j = a.least y q in
      omega arith
