-- RULES 10.1: "Numbers are decimal."
use Rattle.std.specs.Prelude.{Bool, true, false, List, [], ◌∷◌, ℕ, suc, ◌+◌, ◌*◌, ◌-◌, ◌^◌, leb}
use Rattle.finite.specs.Truth.{◌&◌, below}
use Rattle.finite.specs.Search.{least}
use Rattle.io.specs.Digits.{last_digits}

-- how many decimal digits n takes, one at the least
unfoldable pub places : ℕ → ℕ
places n = suc (least 20 (λ k. below n (10 ^ suc k)))

-- n in decimal, with no zeros in front
unfoldable pub decimal_of : ℕ → List ℕ
decimal_of n = last_digits 10 (places n) n

-- ---- the other way round: the number that a text begins with

-- `0` to `9`
unfoldable pub is_digit : ℕ → Bool
is_digit x = leb 48 x & below x 58

-- read on from n, digit by digit, as long as what was read is below 100
unfoldable pub read_on : ℕ → List ℕ → ℕ
read_on n [] = n
read_on n (x ∷ s) = elim (below n 100 & is_digit x) [ true ↦ read_on (10 * n + (x - 48)) s | false ↦ n ]

-- of three digits at the most, zeros in front not counted: whether it stands there as RULES 6.5 has it is asked by printing it
abbrev pub number_in : List ℕ → ℕ
number_in s = read_on 0 s
