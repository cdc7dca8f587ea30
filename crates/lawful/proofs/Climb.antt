-- In a climbing labelling every pair of nodes has a run, and so a lawful path: up to the top node, and down from there.
use mathlib.Core.Path.{◌≡◌}
use mathlib.Core.Bool.{Bool, true, false}
use mathlib.Core.List.{List}
use Prim.Native.Nat.{ℕ, zero, suc, ◌<◌}
use native.Mathlib.Nat.{not-suc-le-zero, lt-suc_self, lt_trans, le_refl}
use native.Mathlib.Omega.{arith}
use Rattle.finite.specs.Truth.{same, below}
use Rattle.finite.specs.Sum.{count}
use Rattle.finite.proofs.Truth.{bcase, same-eq, same-ne, below-lt, lt-below, le_below}
use Rattle.lawful.specs.Turn.{rises, falls, Climbing}
use Rattle.lawful.specs.Path.{LawfulTo}
use Rattle.finite.proofs.Sets.{count-more}
use Rattle.lawful.proofs.Run.{rise, fall, Run, done, hop, rises-edge, rises-lt, lt-falls, run-any}
use Rattle.lawful.proofs.Paths.{run-way}

pub run-fall : {edge : ℕ → ℕ → Bool} {label : ℕ → ℕ} {c : Bool} {v u w k : ℕ} → Run edge label c v u k → falls edge label u w ≡ true
    → Run edge label c v w (suc k)
run-fall done f = hop (fall f) done
run-fall (hop h r) f = hop h (run-fall r f)

module _ (n : ℕ) (edge : ℕ → ℕ → Bool) (label : ℕ → ℕ) (climbing : Climbing n edge label) where
  -- how many nodes are higher than v
  abbrev higher : ℕ → ℕ
  higher v = count n (λ x. below (label v) (label x))

  higher-less : (v u : ℕ) → u < n → label v < label u → higher u < higher v
  higher-less v u b l =
      count-more n (λ x. below (label u) (label x)) (λ x. below (label v) (label x)) u
      (λ x k h. let y : label v < label x = lt_trans l (below-lt _ _ h) in lt-below y) b (lt-below l) (le_below (le_refl _))

  -- what holds at the top, and below each node where it holds, holds everywhere
  pub climb_induction : (P : ℕ → Type 0) → P climbing.top → ((v u : ℕ) → v < n → u < n → rises edge label v u ≡ true → P u → P v)
      → (v : ℕ) → v < n → P v
  climb_induction P top up v l = go (suc (higher v)) v l (lt-suc_self _)
    where
      go : (k v : ℕ) → v < n → higher v < k → P v
      go zero v l b = absurd (not-suc-le-zero b)
      go (suc k) v l b =
          bcase (same v climbing.top) (λ e. rw (same-eq _ _ e) top)
          (λ e.
          let s = climbing.climbs v l (same-ne _ _ e) in
          let less = higher-less v s.at s.low (rises-lt edge label v s.at s.fact) in
          up v s.at l s.low s.fact (go k s.at s.low (omega arith)))

  module _ (undirected : (a b : ℕ) → edge a b ≡ true → edge b a ≡ true) where
    -- a climb read backwards is a descent
    descent : (t : ℕ) → t < n → (k : ℕ) × Run edge label false climbing.top t k
    descent =
        climb_induction (λ t. (k : ℕ) × Run edge label false climbing.top t k) (0, done)
        (λ v u l b h r. (suc r.0, run-fall r.1 (lt-falls edge label u v (undirected v u (rises-edge edge label v u h)) (rises-lt edge label v u h))))

    -- every pair has a run: climb from v, and descend to t
    pub climbing-run : (v t : ℕ) → v < n → t < n → (k : ℕ) × Run edge label true v t k
    climbing-run v t a b =
        climb_induction (λ v. (k : ℕ) × Run edge label true v t k) (let d = descent t b in (d.0, run-any d.1))
        (λ v u l m h r. (suc r.0, hop (rise h) r.1)) v a

    pub climbing-way : (v t : ℕ) → v < n → t < n → (l : List ℕ) × LawfulTo edge label v t l
    climbing-way v t a b = let w = run-way edge label climbing.distinct (climbing-run v t a b).1 in (w.list, w.way)
