-- A list given by its elements; zeros behind a list; lists one behind the other; and the test whether two lists are the same.
use Rattle.std.specs.Prelude.{Bool, true, false, List, [], ◌∷◌, ◌++◌, ℕ, zero, suc, ◌-◌, eqb, length, replicate}
use Rattle.finite.specs.Truth.{◌&◌}

-- f k, f (k + 1), .., n of them
unfoldable pub up_from : ℕ → ℕ → (ℕ → ℕ) → List ℕ
up_from k zero f = []
up_from k (suc n) f = f k ∷ up_from (suc k) n f

-- f 0, f 1, .., f (n - 1)
unfoldable pub tabulate : ℕ → (ℕ → ℕ) → List ℕ
tabulate n f = up_from 0 n f

-- a list and zeros behind it, k in all
unfoldable pub padded : ℕ → List ℕ → List ℕ
padded k l = l ++ replicate (k - length l) 0

-- lists joined, one behind the other
unfoldable pub joined_up : List (List ℕ) → List ℕ
joined_up [] = []
joined_up (l ∷ ls) = l ++ joined_up ls

-- two lists of numbers are the same
unfoldable pub alike : List ℕ → List ℕ → Bool
alike [] [] = true
alike [] (y ∷ ys) = false
alike (x ∷ xs) [] = false
alike (x ∷ xs) (y ∷ ys) = eqb x y & alike xs ys
