-- Runs: rises, then falls, hop by hop, with the class of the message before each hop. Free is the class `true`, falling `false`.
use mathlib.Core.Path.{◌≡◌, ◌∙◌, ap}
use mathlib.Core.Bool.{Bool, true, false}
use Prim.Native.Nat.{ℕ, suc, ◌≤◌, ◌<◌}
use native.Mathlib.Omega.{arith}
use Rattle.finite.specs.Truth.{◌&◌, below}
use Rattle.finite.proofs.Truth.{bcase, refute, both, and_l, and_r, and_true, false_and, below-lt, below-le, lt-below}
use Rattle.lawful.specs.Turn.{rises, falls, Distinct}
use Rattle.lawful.specs.Entry.{free_after}

-- a hop from v to u, with the class before and after it: a free message may rise and stays free then, either may fall and is falling then
pub data Hop (edge : ℕ → ℕ → Bool) (label : ℕ → ℕ) : Bool → ℕ → Bool → ℕ → Type 0 where
  rise : {v u : ℕ} → rises edge label v u ≡ true → Hop edge label true v true u
  fall : {c : Bool} {v u : ℕ} → falls edge label v u ≡ true → Hop edge label c v false u

-- a run in class c from v to t, with the number of its hops: of class `true` rises, then falls; of class `false` falls only
pub data Run (edge : ℕ → ℕ → Bool) (label : ℕ → ℕ) : Bool → ℕ → ℕ → ℕ → Type 0 where
  done : {c : Bool} {v : ℕ} → Run edge label c v v 0
  hop : {c d : Bool} {v u t k : ℕ} → Hop edge label c v d u → Run edge label d u t k → Run edge label c v t (suc k)

-- no run in class c from v to t has fewer than k hops
abbrev pub Fewest : (ℕ → ℕ → Bool) → (ℕ → ℕ) → Bool → ℕ → ℕ → ℕ → Type 0
Fewest edge label c v t k = (j : ℕ) → Run edge label c v t j → k ≤ j

module _ (edge : ℕ → ℕ → Bool) (label : ℕ → ℕ) where
  pub rises-edge : (v u : ℕ) → rises edge label v u ≡ true → edge v u ≡ true
  unfolding rises
  rises-edge v u h = and_l _ _ h

  pub rises-lt : (v u : ℕ) → rises edge label v u ≡ true → label v < label u
  unfolding rises
  rises-lt v u h = below-lt _ _ (and_r _ _ h)

  pub lt-rises : (v u : ℕ) → edge v u ≡ true → label v < label u → rises edge label v u ≡ true
  unfolding rises
  lt-rises v u e l = both e (lt-below l)

  pub falls-edge : (v u : ℕ) → falls edge label v u ≡ true → edge v u ≡ true
  unfolding falls
  falls-edge v u h = and_l _ _ h

  pub falls-lt : (v u : ℕ) → falls edge label v u ≡ true → label u < label v
  unfolding falls
  falls-lt v u h = below-lt _ _ (and_r _ _ h)

  pub lt-falls : (v u : ℕ) → edge v u ≡ true → label u < label v → falls edge label v u ≡ true
  unfolding falls
  lt-falls v u e l = both e (lt-below l)

  -- where neighbours have different labels, a hop rises or falls
  pub rise_or_fall {ℓ} : {A : Type ℓ} → Distinct edge label → (v u : ℕ) → edge v u ≡ true
      → (rises edge label v u ≡ true → A) → (falls edge label v u ≡ true → A) → A
  rise_or_fall d v u e f g =
      bcase (below (label v) (label u)) (λ t. f (lt-rises v u e (below-lt _ _ t)))
      (λ t. let l = below-le _ _ t in let n = d v u e in g (lt-falls v u e (omega arith)))

module _ {edge : ℕ → ℕ → Bool} {label : ℕ → ℕ} where
  pub hop-edge : {c d : Bool} {v u : ℕ} → Hop edge label c v d u → edge v u ≡ true
  hop-edge (rise h) = rises-edge edge label _ _ h
  hop-edge (fall h) = falls-edge edge label _ _ h

  pub hop-after : {c d : Bool} {v u : ℕ} → Hop edge label c v d u → free_after edge label c v u ≡ d
  unfolding free_after
  hop-after (rise h) = and_true _ ∙ h
  hop-after (fall {c = c} {v = v} {u = u} h) =
      ap (λ (b : Bool). c & b)
      (refute (rises edge label v u) (λ t.
      let down = falls-lt edge label v u h in let up = rises-lt edge label v u t in omega arith))
      ∙ false_and c

  -- a falling message could go on as well if it were free
  pub run-any : {c : Bool} {v t k : ℕ} → Run edge label false v t k → Run edge label c v t k
  run-any done = done
  run-any (hop (fall h) r) = hop (fall h) r
