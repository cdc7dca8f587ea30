-- Sums and counts over the numbers 0 .. n - 1.
use Rattle.std.specs.Prelude.{Bool, true, false, ℕ, zero, suc, ◌+◌}

unfoldable pub sum_to : ℕ → (ℕ → ℕ) → ℕ
sum_to zero f = 0
sum_to (suc n) f = sum_to n f + f n

-- x where the test passes, else 0
abbrev pub when : Bool → ℕ → ℕ
when true x = x
when false x = 0

-- the sum over the numbers below n that pass p
abbrev pub sum_if : ℕ → (ℕ → Bool) → (ℕ → ℕ) → ℕ
sum_if n p f = sum_to n (λ v. when (p v) (f v))

-- how many numbers below n pass p
abbrev pub count : ℕ → (ℕ → Bool) → ℕ
count n p = sum_to n (λ v. when (p v) 1)
