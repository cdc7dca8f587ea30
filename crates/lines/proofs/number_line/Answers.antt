-- `lines::number_line` meets its contract: the number, and the rest of the line.
use Rattle.lines.specs.Lines.{with_line}
use Rattle.lines.proofs.number_line.Goals as goal

pub returns-clause-laid : goal.returns-clause-laid
unfolding with_line
returns-clause-laid g c = λ n e. rw c.number.ensures.laid at (c.rest.ensures.laid n e)
