-- Tests are Booleans, and a fact is `b ≡ true`. These connectives stay shut until a proof unfolds them.
use Rattle.std.specs.Prelude.{Bool, true, false, ℕ, eqb, ltb}

infixr 60 ◌&◌
infixr 50 ◌or◌
unfoldable pub ◌&◌ : Bool → Bool → Bool
true & b = b
false & b = false

unfoldable pub ◌or◌ : Bool → Bool → Bool
true or b = true
false or b = b

unfoldable pub non : Bool → Bool
non true = false
non false = true

unfoldable pub same : ℕ → ℕ → Bool
same a b = eqb a b

unfoldable pub below : ℕ → ℕ → Bool
below a b = ltb a b
