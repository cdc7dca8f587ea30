-- A set held in several words of b digits each: word i holds the numbers from b i on.
use Rattle.std.specs.Prelude.{Bool, List, ℕ, ◌*◌, ◌/◌, ◌%◌, get_or}
use Rattle.finite.specs.Sets.{has, set_of}

-- v is a member where digit v % b of word v / b is 1
unfoldable pub member : ℕ → List ℕ → ℕ → Bool
member b ws v = has (get_or ws (v / b) 0) (v % b)

-- k words as one set of numbers below b k
unfoldable pub value : ℕ → ℕ → List ℕ → ℕ
value b k ws = set_of (b * k) (member b ws)
