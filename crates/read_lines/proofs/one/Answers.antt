-- `read_lines::one` meets its contract: the number read, its line laid, and compared with the text.
use native.Mathlib.Omega.{arith}
use Rattle.read_lines.proofs.Printed.{one-is}
use Rattle.read_lines.proofs.one.Goals as goal

pub returns : goal.returns
returns c =
    one-is c.args.s.now _ c.number_in-n.ensures (rw c.new-out.ensures.blank at c.number.ensures.laid)
    c.byte.ensures.laid c.laid.ensures c.found.ensures (omega arith)
