-- The two tables: row v has for each destination t the entry of v. Free is the class `true`.
use Rattle.std.specs.Prelude.{Bool, true, false, List, ℕ, ◌*◌, ◌/◌, ◌%◌}
use Rattle.finite.specs.Lists.{tabulate, padded}
use Rattle.nodes.specs.Limits.{max_nodes}
use Rattle.lawful.specs.Entry.{entry}
use Rattle.rows.specs.declared.Tables.{Tables}

-- the bytes of a table with a row for each of 64 nodes
abbrev pub table_size : ℕ
table_size = max_nodes * max_nodes

-- RULES 6.2: "row v holds node v's entry for each destination": the rows of m nodes, one after the other, of entries computed at the width w: byte v * m + t
-- is the entry of v for the destination t
unfoldable pub rows_of : ℕ → ℕ → (ℕ → ℕ → Bool) → (ℕ → ℕ) → Bool → List ℕ
rows_of w m edge label class = tabulate (m * m) (λ i. entry w edge label (i % m) class (i / m))

-- both classes, with zeros behind the rows up to the size of a table
unfoldable pub tables_of : ℕ → ℕ → (ℕ → ℕ → Bool) → (ℕ → ℕ) → Tables
tables_of w m edge label = record { free = padded table_size (rows_of w m edge label true); falling = padded table_size (rows_of w m edge label false) }
