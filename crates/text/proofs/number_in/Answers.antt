-- `text::number_in` meets its contract: a byte more is read, or reading stops there.
use Rattle.std.proofs.Common.{inl, inr, arith}
use Rattle.text.proofs.Reading.{digits_more, digits_stopped, digits_all}
use Rattle.text.proofs.number_in.Goals as goal
use Rattle.text.proofs.number_in.Goals.{then-n-ge100-via-then-n-ge100, then-n-ge100-via-else-n-ge100+then-not-is_ascii_digit}

pub returns-then-n-ge100 : goal.returns-then-n-ge100
returns-then-n-ge100 c =
    digits_stopped c.loop-x.invariant (omega arith) (elim c.then-n-ge100.branch [
      | then-n-ge100-via-then-n-ge100 w ↦ inl w.if-n-ge100.true
      | then-n-ge100-via-else-n-ge100+then-not-is_ascii_digit w ↦ inr w.if-not-is_ascii_digit.ensures.cases
    ])

pub loop-x-preserved : goal.loop-x-preserved
loop-x-preserved c =
    let digit = c.if-not-is_ascii_digit.ensures.cases in
    rw c.from.ensures (digits_more c.loop-x.invariant (omega arith) (omega arith) (omega arith) (omega arith))

pub returns : goal.returns
returns c = digits_all c.loop-x.invariant (omega arith)
