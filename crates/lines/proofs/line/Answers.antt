-- `lines::line` meets its contract: the word, and the rest of the line.
use Rattle.std.proofs.Common.{map-id}
use Rattle.lines.specs.Lines.{with_line}
use Rattle.lines.proofs.line.Goals as goal

pub returns-clause-laid : goal.returns-clause-laid
unfolding with_line
returns-clause-laid c = rw (map-id, c.put.ensures.laid) at (c.rest.ensures.laid (λ n. n) (λ x y e. e))
