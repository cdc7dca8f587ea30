-- The promises of `row`, `hop` and `hop_within` determine their answers: any two outcomes that they allow are equal.
use mathlib.Core.Path.{◌≡◌, sym, ◌∙◌}
use mathlib.Core.List.{List}
use Prim.Native.Nat.{ℕ}
use Rattle.hops.specs.Row.{row_in}
use Rattle.hops.specs.Hop.{HopAnswer, hop_in, hop_within}

module _ (free falling : List ℕ) (n node class : ℕ) where
  pub row_determined : (r s : List ℕ) → r ≡ row_in free falling n node class → s ≡ row_in free falling n node class → r ≡ s
  row_determined r s p q = p ∙ sym q

  module _ (labels : List ℕ) (destination : ℕ) (r s : HopAnswer) where
    pub hop_determined : r ≡ hop_in labels free falling n node class destination → s ≡ hop_in labels free falling n node class destination → r ≡ s
    hop_determined p q = p ∙ sym q

    pub hop-within_determined : r ≡ hop_within labels free falling n node class destination → s ≡ hop_within labels free falling n node class destination → r ≡ s
    hop-within_determined p q = p ∙ sym q
