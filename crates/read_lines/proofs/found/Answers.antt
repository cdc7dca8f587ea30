-- `read_lines::found` meets its contract: each test that fails refutes that the text begins with the line.
use Rattle.std.proofs.Common.{true, false, sym, arith}
use Rattle.std.specs.Cmp.Lexicographic.{told_text}
use Rattle.read_lines.proofs.Sizes.{found-some, found-none}
use Rattle.read_lines.proofs.found.Goals as goal
use Rattle.read_lines.proofs.found.Goals.{then-first-gt255-via-then-first-gt255, then-first-gt255-via-else-first-gt255+then-second-gt255, then-first-gt255-via-else-first-gt255+else-second-gt255+then-not-starts_with}

pub returns-then-first-gt255 : goal.returns-then-first-gt255
returns-then-first-gt255 c =
    found-none _ _ _ _ (λ p q e. elim c.then-first-gt255.branch [
      | then-first-gt255-via-then-first-gt255 w ↦ omega arith
      | then-first-gt255-via-else-first-gt255+then-second-gt255 w ↦ omega arith
      | then-first-gt255-via-else-first-gt255+else-second-gt255+then-not-starts_with w ↦ told_text _ _ false w.if-not-starts_with.ensures.value (sym e)
    ])

pub returns : goal.returns
returns c = found-some _ _ _ _ (omega arith) (omega arith) (sym (told_text _ _ true c.if-not-starts_with.ensures.value))
