-- `fabric::good` meets its contract: table, labels and tables, tied to N.
use Rattle.fabric.proofs.Making.{fabric-made}
use Rattle.fabric.proofs.good.Goals as goal

pub returns : goal.returns
returns c =
    fabric-made c.requires _ _ _ c.table_of-t.ensures c.labels-labels.ensures c.tables_of-tables.ensures
