-- RULES 7.5: what the row call answers. Its tables are any two lists of bytes.
use Rattle.std.specs.Prelude.{◌≡◌, Bool, true, false, List, [], ℕ, ◌*◌, ◌≤◌, ◌<◌, length, take, drop}
use Rattle.finite.specs.Truth.{◌&◌, non, same, below}
use Rattle.nodes.specs.Limits.{max_nodes}

-- refusal 10, RULES 9.1: "N not 2 to 64, either table not N × N long, a node [..] ≥ N, class above 1"
pub data RowFault (free falling : List ℕ) (n node class : ℕ) : Type 0 where
  few : n < 2 → RowFault free falling n node class
  many : max_nodes < n → RowFault free falling n node class
  free-size : (length free ≡ n * n → ⊥) → RowFault free falling n node class
  falling-size : (length falling ≡ n * n → ⊥) → RowFault free falling n node class
  no_node : n ≤ node → RowFault free falling n node class
  no-class : 1 < class → RowFault free falling n node class

-- the test for it, which passes where there is no such fault
unfoldable pub row_known : List ℕ → List ℕ → ℕ → ℕ → ℕ → Bool
row_known free falling n node class =
    non (below n 2) & non (below max_nodes n) & same (length free) (n * n) & same (length falling) (n * n) & below node n & non (below 1 class)

-- RULES 7.5: "whichever of the two tables holds it": free is class 0, falling class 1
unfoldable pub table_in : List ℕ → List ℕ → ℕ → List ℕ
table_in free falling class = elim (same class 0) [ true ↦ free | false ↦ falling ]

-- RULES 7.5: "It answers the row as that part of whichever of the two tables holds it"; "an empty part means refusal 10"
unfoldable pub row_in : List ℕ → List ℕ → ℕ → ℕ → ℕ → List ℕ
row_in free falling n node class =
    elim (row_known free falling n node class) [ true ↦ take n (drop (node * n) (table_in free falling class)) | false ↦ [] ]
