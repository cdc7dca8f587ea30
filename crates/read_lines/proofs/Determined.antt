-- The promises of `one` and `two` determine their answers.
use mathlib.Core.Path.{◌≡◌, sym, ◌∙◌}
use mathlib.Core.List.{List}
use Prim.Native.Nat.{ℕ}
use Rattle.std.specs.Prelude.{Option}
use Rattle.read_lines.specs.declared.FirstLine.{FirstLine}
use Rattle.read_lines.specs.Numbers.{one_in, two_in}

module _ (s : List ℕ) {a b : Option FirstLine} where
  pub one_determined : a ≡ one_in s → b ≡ one_in s → a ≡ b
  one_determined p q = p ∙ sym q

  pub two_determined : a ≡ two_in s → b ≡ two_in s → a ≡ b
  two_determined p q = p ∙ sym q
