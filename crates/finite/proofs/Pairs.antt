-- The members of any set make d(d-1)/2 pairs, d being their number.
use mathlib.Core.Path.{◌≡◌, refl, sym, ◌∙◌}
use mathlib.Core.Bool.{Bool, true, false}
use Prim.Native.Nat.{ℕ, zero, suc, ◌+◌, ◌-◌, ◌*◌, ◌/◌}
use native.Mathlib.Omega.{arith}
use Rattle.finite.specs.Truth.{◌&◌, below}
use Rattle.finite.specs.Sum.{sum_to, when, count}
use Rattle.finite.proofs.Truth.{no_tf, bcase, both, and_l, and_r, iff, refute, below-lt, lt-below}
use Rattle.finite.proofs.Sum.{sum-add, when_true, when_false, count_cong, count_none}

-- how many pairs d things make
abbrev pub choose_two : ℕ → ℕ
choose_two d = d * (d - 1) / 2

-- two members a < c of p
abbrev pub pair : (ℕ → Bool) → ℕ → ℕ → Bool
pair p a c = below a c & p a & p c

-- how many pairs the members below n make
abbrev pub pairs : ℕ → (ℕ → Bool) → ℕ
pairs n p = sum_to n (λ a. count n (pair p a))

-- n is the upper number of as many pairs as there are members below it, where it is a member, and the lower number of none
as_upper : (n : ℕ) (p : ℕ → Bool) → count n (λ a. pair p a n) ≡ when (p n) (count n p)
as_upper n p =
    bcase (p n)
    (λ t.
    count_cong n (λ a. pair p a n) p (λ a l. iff _ _ (λ h. and_l _ _ (and_r _ _ h)) (λ h. both (lt-below l) (both h t)))
    ∙ sym (when_true _ t))
    (λ f. count_none n (λ a. pair p a n) (λ a l. refute _ (λ h. no_tf (and_r _ _ (and_r _ _ h)) f)) ∙ sym (when_false _ f))

as_lower : (n : ℕ) (p : ℕ → Bool) → count (suc n) (pair p n) ≡ 0
as_lower n p = count_none (suc n) (pair p n) (λ c l. refute _ (λ h. let k = below-lt _ _ (and_l _ _ h) in omega arith))

pairs-more : (n : ℕ) (p : ℕ → Bool) → pairs (suc n) p ≡ pairs n p + when (p n) (count n p)
unfolding sum_to
pairs-more n p =
    let e = sum-add n (λ a. count n (pair p a)) (λ a. when (pair p a n) 1) in
    let u = as_upper n p in
    let l = as_lower n p in
    omega arith

-- the pairs twice and the members once are the members squared
pub pairs_square : (n : ℕ) (p : ℕ → Bool) → 2 * pairs n p + count n p ≡ count n p * count n p
unfolding sum_to
pairs_square zero p = refl
pairs_square (suc n) p = go (p n) _ _ _ (pairs-more n p) (pairs_square n p)
  where
    go : (b : Bool) (s d t : ℕ) → t ≡ s + when b d → 2 * s + d ≡ d * d → 2 * t + (d + when b 1) ≡ (d + when b 1) * (d + when b 1)
    go true s d t e i = omega arith
    go false s d t e i = omega arith

pub pairs_formula : (n : ℕ) (p : ℕ → Bool) → pairs n p ≡ choose_two (count n p)
pairs_formula n p = go (pairs n p) (count n p) (pairs_square n p)
  where
    go : (s d : ℕ) → 2 * s + d ≡ d * d → s ≡ choose_two d
    go s zero e = omega arith
    go s (suc d) e = let k : suc d - 1 ≡ d = omega arith in rw k (omega arith)
