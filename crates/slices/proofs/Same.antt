-- The library's test whether two slices of numbers are equal is the test whether two lists are the same.
use mathlib.Core.Path.{◌≡◌, sym}
use mathlib.Core.Bool.{Bool, true, false}
use mathlib.Core.List.{List}
use Prim.Native.Nat.{ℕ}
use lib.Dec.{eqb}
use lib.Pointwise.{pointwise}
use Rattle.std.specs.Bool.{MatchBool}
use Rattle.std.specs.Cmp.Lexicographic.{told_text}
use Rattle.finite.specs.Lists.{alike}
use Rattle.finite.proofs.Lists.{eq-alike, ne-alike}

told-alike : (xs ys : List ℕ) (r : Bool) → MatchBool r (xs ≡ ys) (xs ≡ ys → ⊥) → r ≡ alike xs ys
told-alike xs ys true e = sym (eq-alike e)
told-alike xs ys false n = sym (ne-alike xs ys n)

pub equal_alike : (xs ys : List ℕ) (r : Bool) → r ≡ pointwise eqb xs ys → r ≡ alike xs ys
equal_alike xs ys r e = told-alike xs ys r (told_text xs ys r e)
