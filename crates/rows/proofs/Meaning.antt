-- How long the rows of m nodes are, and what stands in them: byte v * m + t is the entry of v for t.
use mathlib.Core.Path.{◌≡◌, ◌∙◌}
use mathlib.Core.Bool.{Bool}
use Prim.Native.Nat.{ℕ, ◌+◌, ◌*◌, ◌<◌}
use lib.ListN.{length, get_or}
use Rattle.finite.proofs.Lists.{tabulate-length, tabulate-at}
use Rattle.finite.proofs.Grid.{cell_row, cell-column, cell-lt}
use Rattle.lawful.specs.Entry.{entry}
use Rattle.rows.specs.Tables.{rows_of}

module _ (w m : ℕ) (edge : ℕ → ℕ → Bool) (label : ℕ → ℕ) (class : Bool) where
  pub rows-length : length (rows_of w m edge label class) ≡ m * m
  unfolding rows_of
  rows-length = tabulate-length (m * m) _

  -- row v, column t
  pub rows_at : (v t : ℕ) → v < m → t < m → get_or (rows_of w m edge label class) (v * m + t) 0 ≡ entry w edge label t class v
  unfolding rows_of
  rows_at v t k l = tabulate-at (m * m) _ (v * m + t) 0 (cell-lt m t l v k) ∙ rw (cell_row m t l v, cell-column m t l v)
