-- Searches over the numbers 0 .. n - 1: does some, does every number pass, and which is the least that does.
use Rattle.std.specs.Prelude.{◌≡◌, Bool, true, false, ◌⊎◌, ℕ, zero, suc, ◌≤◌, ◌<◌}
use Rattle.finite.specs.Truth.{◌&◌, same}

-- some number below n passes p
pub record Some (n : ℕ) (p : ℕ → Bool) : Type 0 where
  pub at : ℕ
  pub low : at < n
  pub fact : p at ≡ true

-- does some number below n pass; does every one?
unfoldable pub any : ℕ → (ℕ → Bool) → Bool
any zero p = false
any (suc n) p = elim (p n) [ true ↦ true | false ↦ any n p ]

unfoldable pub all : ℕ → (ℕ → Bool) → Bool
all zero p = true
all (suc n) p = elim (p n) [ true ↦ all n p | false ↦ false ]

-- the least number below n that passes p, and n where none does
unfoldable pub least : ℕ → (ℕ → Bool) → ℕ
least zero p = 0
least (suc n) p = elim (p 0) [ true ↦ 0 | false ↦ suc (least n (λ v. p (suc v))) ]

-- the least f of a number below n that passes p, each f being below b; b where none passes
unfoldable pub least_value : ℕ → ℕ → (ℕ → ℕ) → (ℕ → Bool) → ℕ
least_value b n f p = least b (λ x. any n (λ v. same (f v) x & p v))

-- the lowest number below n that passes p and has the value x; n where none does
unfoldable pub lowest_at : ℕ → (ℕ → ℕ) → (ℕ → Bool) → ℕ → ℕ
lowest_at n f p x = least n (λ v. same (f v) x & p v)

-- of the numbers below n that pass p, the one with the least f, the lowest of them where several have it; n where none passes
unfoldable pub least_by : ℕ → ℕ → (ℕ → ℕ) → (ℕ → Bool) → ℕ
least_by b n f p = lowest_at n f p (least_value b n f p)

-- the same in words: v passes, and every number that does has a higher f, or the same f and is no lower
pub record LeastBy (n : ℕ) (f : ℕ → ℕ) (p : ℕ → Bool) (v : ℕ) : Type 0 where
  pub low : v < n
  pub fact : p v ≡ true
  pub first : (u : ℕ) → u < n → p u ≡ true → (f v < f u) ⊎ ((f v ≡ f u) × (v ≤ u))
