-- Turns, counted one by one. A turn (a, b, c) has two links at b and different ends; (c, b, a) is the same turn, so ends are taken with a < c.
use Rattle.std.specs.Prelude.{Bool, true, ℕ}
use Rattle.finite.specs.Truth.{◌&◌, below}
use Rattle.finite.specs.Sum.{sum_to, count}
use Rattle.lawful.specs.Turn.{prohibited}

-- how many turns (a, b, c) between n nodes pass the test
unfoldable pub turns_that : ℕ → (ℕ → ℕ → Bool) → (ℕ → ℕ → ℕ → Bool) → ℕ
turns_that n edge test = sum_to n (λ b. sum_to n (λ a. count n (λ c. below a c & edge b a & edge b c & test a b c)))

-- RULES 3.3: "T is the number of turns"; RULES 4.4: "W is the number of prohibited turns."
abbrev pub all_turns : ℕ → (ℕ → ℕ → Bool) → ℕ
all_turns n edge = turns_that n edge (λ a b c. true)

abbrev pub prohibited_turns : ℕ → (ℕ → ℕ → Bool) → (ℕ → ℕ) → ℕ
prohibited_turns n edge label = turns_that n edge (prohibited label)
