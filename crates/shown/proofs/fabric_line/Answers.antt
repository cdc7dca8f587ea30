-- `shown::fabric_line` meets its contract: the word and four numbers, of turns that are counted over the table.
use Rattle.std.proofs.Common.{◌∙◌, ap}
use Rattle.fabric.specs.declared.Fabric.{Fabric}
use Rattle.lines.specs.Lines.{with_line}
use Rattle.shown.specs.Shows.{fabric_word}
use Rattle.shown.proofs.Tables.{fields_made}
use Rattle.shown.proofs.fabric_line.Goals as goal

pub returns-clause-laid : goal.returns-clause-laid
returns-clause-laid c =
    c.line.ensures.laid
    ∙ ap (with_line _ fabric_word)
    (fields_made c.requires.good (ap (λ (f : Fabric). f.labels) c.requires.made) c.table_of-t.ensures c.total-total.ensures c.prohibited-prohibited.ensures)
