-- A square table in one list: cell v * m + t stands in row v and column t. A column is placed cell by cell, and the columns together make the table.
use mathlib.Core.Path.{◌≡◌, refl, sym, ◌∙◌}
use mathlib.Core.Bool.{Bool, true, false}
use mathlib.Core.List.{List}
use Prim.Native.Nat.{ℕ, ◌+◌, ◌*◌, ◌/◌, ◌%◌, ◌≤◌, ◌<◌, zero-le}
use native.Mathlib.Nat.{mul-le-mul}
use native.Mathlib.Omega.{arith}
use lib.ListN.{length, get_or, set, replicate, length-set, length-replicate}
use lib.Seq.{get_or-set_same, get_or-set_other}
use Rattle.finite.specs.Truth.{◌&◌, same, below}
use Rattle.finite.specs.Lists.{tabulate, padded}
use Rattle.finite.proofs.Truth.{bcase, and_true, and_false, true_and, false_and, same-eq, same-ne, same_refl, below-lt, below-le, lt-below, le_below, below_next}
use Rattle.finite.proofs.Lists.{get_or-zeros, tabulate-length, tabulate-at, tabulate_out, tabulate_ext, padded_ext}
use Rattle.finite.proofs.Grid.{cell_row, cell-column, cell-lt, cell-is, cell-inside}
use Rattle.nodes.specs.Limits.{max_nodes}
use Rattle.rows.specs.Tables.{table_size}
use Rattle.rows.specs.Steps.{pick, placed_of}

-- no more than 64 rows fill no more than the whole table
pub square_le : (m : ℕ) → m ≤ max_nodes → m * m ≤ table_size
square_le m l = mul-le-mul l l

-- ---- one column

-- the cells of column d before row v are those of the column, the others are as they were
pub record Placing (m d : ℕ) (column table next : List ℕ) (v : ℕ) : Type 0 where
  pub size : length next ≡ table_size
  pub cells : (i : ℕ) → i < table_size → get_or next i 0 ≡ pick (same (i % m) d & below (i / m) v) (get_or column (i / m) 0) (get_or table i 0)

pub placing_none : (m d : ℕ) (column : List ℕ) {table : List ℕ} → length table ≡ table_size → Placing m d column table table 0
placing_none m d column e = record {
  size = e;
  cells = λ i l. rw (le_below {a = i / m} zero-le, false_and);
}

pub placing_more : {m d : ℕ} {column table next : List ℕ} {v x : ℕ} → Placing m d column table next v → m ≤ max_nodes → d < m → v < m
    → x ≡ get_or column v 0 → Placing m d column table (set next (v * m + d) x) (v + 1)
placing_more {m} {d} {column} {table} {next} {v} {x} h few low l e = record {
  size = length-set next _ x ∙ h.size;
  cells = λ i b.
      bcase (same i (v * m + d))
      (λ q.
      let inside = cell-lt m d low v l in
      let most = square_le m few in
      let size = h.size in
      rw (same-eq i (v * m + d) q, cell_row m d low v, cell-column m d low v, same_refl d, lt-below {a = v} {b = v + 1} (omega arith), and_true)
      (get_or-set_same next (v * m + d) x 0 (omega arith) ∙ e))
      (λ q.
      get_or-set_other next (v * m + d) i x 0 (same-ne i (v * m + d) q) ∙ h.cells i b
      ∙ bcase (same (i % m) d)
      (λ t. rw (below_next (i / m) v (λ p. same-ne i (v * m + d) q (cell-is m i v d p (same-eq (i % m) d t)))))
      (λ t. rw (t, and_false (below (i / m) v), and_false)));
}

pub placing_all : {m d : ℕ} {column table next : List ℕ} {v : ℕ} → Placing m d column table next v → v ≡ m → next ≡ placed_of m d column table
unfolding placed_of
placing_all {next = next} h e = tabulate_ext table_size _ 0 next h.size (λ i l. rw e at (h.cells i l))

-- ---- column by column

-- the new column, where the cell stands in it; else what the first columns hold
joined-cell : (s a b c : Bool) (x y : ℕ) → (s ≡ true → b ≡ true) → (s ≡ false → a ≡ b) → (s ≡ true → c ≡ true → x ≡ y)
    → pick (s & c) x (pick (a & c) y 0) ≡ pick (b & c) y 0
joined-cell s a b false x y p q r = rw (false_and s, false_and a, false_and b)
joined-cell true a b true x y p q r = rw (true_and true, true_and b, p refl) (r refl refl)
joined-cell false a b true x y p q r = rw (and_false true, q refl)

module _ (m : ℕ) (f : ℕ → ℕ → ℕ) where
  -- the first d columns hold f, every other cell is 0
  pub record Columns (table : List ℕ) (d : ℕ) : Type 0 where
    pub size : length table ≡ table_size
    pub cells : (i : ℕ) → i < table_size → get_or table i 0 ≡ pick (below (i % m) d & below (i / m) m) (f (i / m) (i % m)) 0

  pub columns_none : Columns (replicate table_size 0) 0
  columns_none = record {
    size = length-replicate {A = ℕ} table_size 0;
    cells = λ i l. rw (le_below {a = i % m} zero-le, and_false) (get_or-zeros table_size i);
  }

  pub columns_more : {table next column : List ℕ} {d : ℕ} → Columns table d → m ≤ max_nodes → column ≡ tabulate max_nodes (λ v. f v d)
      → next ≡ placed_of m d column table → Columns next (d + 1)
  unfolding placed_of
  columns_more {table} {next} {column} {d} h few e p = record {
    size = rw p (tabulate-length table_size _);
    cells = λ i l.
        rw (p, tabulate-at table_size _ i 0 l, h.cells i l)
        (joined-cell (same (i % m) d) (below (i % m) d) (below (i % m) (d + 1)) (below (i / m) m) _ _
        (λ t. let q = same-eq _ _ t in lt-below (omega arith))
        (λ t. below_next (i % m) d (same-ne _ _ t))
        (λ t b. let k = below-lt _ _ b in rw (e, tabulate-at max_nodes (λ v. f v d) (i / m) 0 (omega arith), ← same-eq _ _ t)));
  }

  pub columns_all : {table : List ℕ} {d : ℕ} → Columns table d → m ≤ max_nodes → d ≡ m → table ≡ padded table_size (tabulate (m * m) (λ i. f (i / m) (i % m)))
  columns_all {table} h few e =
      let g : ℕ → ℕ = λ i. f (i / m) (i % m) in
      let long = tabulate-length (m * m) g in
      let most = square_le m few in
      padded_ext table_size (tabulate (m * m) g) table (omega arith) h.size
      (λ i l.
      h.cells i l ∙ rw (e, cell-inside m i)
      (bcase (below i (m * m)) (λ t. rw t (sym (tabulate-at (m * m) g i 0 (below-lt _ _ t)))) (λ t. rw t (sym (tabulate_out (m * m) g i 0 (below-le _ _ t))))))
