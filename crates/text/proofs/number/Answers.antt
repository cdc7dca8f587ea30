-- `text::number` meets its contract: the digits that `io::decimal` finds are n in decimal.
use mathlib.Core.Path.{◌∙◌, ap}
use Prim.Native.Nat.{ℕ}
use Rattle.io.specs.Digits.{last_digits}
use Rattle.laid.specs.Laid.{behind}
use Rattle.text.specs.Text.{decimal_of}
use Rattle.text.proofs.Decimal.{fewest-places}
use Rattle.text.proofs.number.Goals as goal

pub returns-clause-laid : goal.returns-clause-laid
unfolding decimal_of
returns-clause-laid c =
    let n : ℕ = c.args.n in
    c.put.ensures.laid
    ∙ ap (behind _) (c.decimal-k.ensures.digits
    ∙ ap (λ (k : ℕ). last_digits 10 k n) (fewest-places n c.decimal-k.result c.ranges.n.fits c.decimal-k.ensures.len))
