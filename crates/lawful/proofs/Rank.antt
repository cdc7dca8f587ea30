-- Ranks of hops: along a run, and so along a lawful path, they rise strictly. A rise ranks at most m, a fall above m.
use mathlib.Core.Path.{◌≡◌, sym}
use mathlib.Core.Bool.{Bool, true, false}
use mathlib.Core.List.{List, [], ◌∷◌}
use Prim.Native.Nat.{ℕ, zero, suc, ◌+◌, ◌-◌, ◌*◌, ◌≤◌, ◌<◌}
use native.Mathlib.Nat.{not-suc-le-zero, le_of_lt, le_of_suc-le-suc, le_dest, add-zero, add-suc}
use native.Mathlib.Omega.{arith}
use lib.ListN.{length, get_or}
use Rattle.finite.specs.Truth.{below}
use Rattle.finite.proofs.Truth.{bcase, below-lt, lt-below, le_below}
use Rattle.lawful.specs.Turn.{rises, falls, Distinct}
use Rattle.lawful.proofs.Run.{Hop, rise, fall, rises-lt, falls-lt, hop-edge}
use Rattle.lawful.proofs.Paths.{WayTo, way-first}

-- a rise into u has the rank `label u`, a fall into u the rank `2 m + 1 - label u`
unfoldable pub rank : ℕ → (ℕ → ℕ) → ℕ → ℕ → ℕ
rank m label v u = elim (below (label v) (label u)) [ true ↦ label u | false ↦ 2 * m + 1 - label u ]

-- where u has a label up to m it is above 0 and at most 2 m + 1
pub rank_between : (m : ℕ) (label : ℕ → ℕ) (v u : ℕ) → label u ≤ m → (0 < rank m label v u) × (rank m label v u ≤ 2 * m + 1)
unfolding rank
rank_between m label v u b =
    bcase (below (label v) (label u))
    (λ t.
    let l = below-lt _ _ t in
    let e : rank m label v u ≡ label u = rw (t, rank) in
    (omega arith, omega arith))
    (λ t. let e : rank m label v u ≡ 2 * m + 1 - label u = rw (t, rank) in (omega arith, omega arith))

-- the rank of hop i, counted from 0, of the path that goes from v over l
abbrev pub hop_rank : ℕ → (ℕ → ℕ) → ℕ → List ℕ → ℕ → ℕ
hop_rank m label v l i = rank m label (get_or (v ∷ l) i 0) (get_or l i 0)

module _ (m : ℕ) (edge : ℕ → ℕ → Bool) (label : ℕ → ℕ) where
  pub rise-rank : (v u : ℕ) → rises edge label v u ≡ true → rank m label v u ≡ label u
  unfolding rank
  rise-rank v u h = rw (lt-below (rises-lt edge label v u h), rank)

  pub fall-rank : (v u : ℕ) → falls edge label v u ≡ true → rank m label v u ≡ 2 * m + 1 - label u
  unfolding rank
  fall-rank v u h = let l : label u ≤ label v = le_of_lt (falls-lt edge label v u h) in rw (le_below l, rank)

  -- a hop ranks above the one before it: rise then rise, rise then fall, fall then fall
  pub rank_rises : {c d e : Bool} {v u w : ℕ} → Hop edge label c v d u → Hop edge label d u e w → label u ≤ m → rank m label v u < rank m label u w
  rank_rises (rise h) (rise g) b =
      let x = rise-rank _ _ h in let y = rise-rank _ _ g in let l = rises-lt edge label _ _ g in omega arith
  rank_rises (rise h) (fall g) b =
      let x = rise-rank _ _ h in let y = fall-rank _ _ g in let l = falls-lt edge label _ _ g in omega arith
  rank_rises (fall h) (fall g) b =
      let x = fall-rank _ _ h in let y = fall-rank _ _ g in let l = falls-lt edge label _ _ g in omega arith

module _ (n m : ℕ) (edge : ℕ → ℕ → Bool) (label : ℕ → ℕ) (inside : (a b : ℕ) → edge a b ≡ true → b < n) (distinct : Distinct edge label)
    (bound : (x : ℕ) → x < n → label x ≤ m) where
  next-rank : (c : Bool) (v t : ℕ) (l : List ℕ) → WayTo edge label c v t l → (i : ℕ) → suc i < length l
      → hop_rank m label v l i < hop_rank m label v l (suc i)
  next-rank c v t [] w i b = absurd (not-suc-le-zero b)
  next-rank c v t (u ∷ []) w i b = absurd (not-suc-le-zero (le_of_suc-le-suc b))
  next-rank c v t (u ∷ x ∷ l) w zero b =
      let f = way-first edge label distinct c v u t (x ∷ l) w in
      let g = way-first edge label distinct f.next u x t l f.rest in
      rank_rises m edge label f.first g.first (bound u (inside v u (hop-edge f.first)))
  next-rank c v t (u ∷ x ∷ l) w (suc i) b =
      let f = way-first edge label distinct c v u t (x ∷ l) w in next-rank f.next u t (x ∷ l) f.rest i (le_of_suc-le-suc b)

  -- on a way every later hop ranks higher
  pub later-rank : (c : Bool) (v t : ℕ) (l : List ℕ) → WayTo edge label c v t l → (i j : ℕ) → i < j → j < length l
      → hop_rank m label v l i < hop_rank m label v l j
  later-rank c v t l w i j k b = let (d, e) = le_dest k in rw (sym e) (go d (omega arith))
    where
      go : (d : ℕ) → suc i + d < length l → hop_rank m label v l i < hop_rank m label v l (suc i + d)
      go zero b = rw add-zero (next-rank c v t l w i (omega arith))
      go (suc d) b =
          let x = go d (omega arith) in
          let y = next-rank c v t l w (suc i + d) (omega arith) in
          rw add-suc (omega arith)
