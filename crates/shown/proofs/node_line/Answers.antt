-- `shown::node_line` meets its contract: the number, the label, and the rest of the line.
use Rattle.std.proofs.Common.{map-id}
use Rattle.lines.specs.Lines.{with_fields, with_line}
use Rattle.shown.proofs.node_line.Goals as goal

pub returns-clause-laid : goal.returns-clause-laid
unfolding with_fields with_line
returns-clause-laid c =
    rw (map-id, c.field.ensures.laid, c.number.ensures.laid) at (c.rest.ensures.laid (λ n. n) (λ x y e. e))
