-- `read_lines::two` meets its contract: the first number read and laid, a space, the second behind it, the line feed, and the line compared.
use native.Mathlib.Omega.{arith}
use Rattle.read_lines.proofs.Printed.{two_is}
use Rattle.read_lines.proofs.two.Goals as goal

pub returns : goal.returns
returns c =
    two_is c.args.s.now _ c.number_in-a.ensures (rw c.new-out.ensures.blank at c.number.ensures.laid)
    c.put.ensures.laid c.rest.ensures c.number_in-b.ensures c.number-2.ensures.laid c.byte.ensures.laid
    c.laid.ensures c.found.ensures (omega arith)
