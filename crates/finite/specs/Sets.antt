-- A finite set of numbers as one number: v is a member where binary digit v is 1. A word of 64 bits is such a set of numbers below 64.
use Rattle.std.specs.Prelude.{Bool, ℕ, ◌/◌, ◌%◌, ◌^◌, eqb}
use Rattle.finite.specs.Truth.{◌&◌, non, same}
use Rattle.finite.specs.Sum.{sum_if}

unfoldable pub has : ℕ → ℕ → Bool
has w v = eqb (w / 2 ^ v % 2) 1

-- the set of the numbers below n that pass p
unfoldable pub set_of : ℕ → (ℕ → Bool) → ℕ
set_of n p = sum_if n p (λ v. 2 ^ v)

-- the numbers that pass R, but not v
unfoldable pub without : (ℕ → Bool) → ℕ → ℕ → Bool
without R v u = R u & non (same v u)
