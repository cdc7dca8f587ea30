-- A sum over the members of a word, taken one by one from the lowest: what is summed and what is left make the whole.
use mathlib.Core.Path.{◌≡◌, ◌∙◌, ap}
use mathlib.Core.Bool.{Bool, true}
use Prim.Native.Nat.{ℕ, ◌+◌, ◌^◌, ◌<◌}
use native.Mathlib.Omega.{arith}
use Rattle.finite.specs.Sum.{when, sum_if}
use Rattle.finite.specs.Search.{least}
use Rattle.finite.specs.Sets.{has, set_of, without}
use Rattle.finite.proofs.Sum.{sum_cong, sum-zero, sum-without, when_false}
use Rattle.finite.proofs.Sets.{has_0, has-lt, has-set_of}
use Rattle.nodes.proofs.Words.{lowest_in}

-- the sum so far and the sum over what is left make the total
abbrev pub Summing : ℕ → (ℕ → ℕ) → ℕ → ℕ → ℕ → Type 0
Summing n f total sum left = (sum + sum_if n (has left) f ≡ total) × (left < 2 ^ n)

pub summing_more : (n : ℕ) (f : ℕ → ℕ) (total sum left : ℕ) {u x rest : ℕ} → Summing n f total sum left → (left ≡ 0 → ⊥)
    → u ≡ least n (has left) → x ≡ f u → rest ≡ set_of n (without (has left) u) → rest < 2 ^ n → Summing n f total (sum + x) rest
summing_more n f total sum left {u} {x} {rest} s z e v r l =
    let i = s.0 in
    let h : has left u ≡ true = ap (has left) e ∙ lowest_in n left s.1 z in
    let p = sum-without n (has left) f u (has-lt n left u s.1 h) h in
    let q : sum_if n (has rest) f ≡ sum_if n (without (has left) u) f =
    sum_cong n _ _ (λ y k. ap (λ (b : Bool). when b (f y)) (ap (λ (w : ℕ). has w y) r ∙ has-set_of n _ y k)) in
    (omega arith, l)

pub summing_all : (n : ℕ) (f : ℕ → ℕ) (total sum left : ℕ) → Summing n f total sum left → left ≡ 0 → sum ≡ total
summing_all n f total sum left s e =
    let i = s.0 in
    let z : sum_if n (has left) f ≡ 0 = sum-zero n _ (λ v l. when_false (f v) (ap (λ (w : ℕ). has w v) e ∙ has_0 v)) in
    omega arith
