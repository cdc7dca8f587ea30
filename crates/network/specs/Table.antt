-- A network as the code holds it: pairs of bytes, and a table of neighbour words.
use Rattle.std.specs.Prelude.{Bool, List, ℕ, ◌+◌, ◌*◌, ◌/◌, length, get_or}
use Rattle.finite.specs.Truth.{◌&◌, ◌or◌, non, same}
use Rattle.finite.specs.Search.{any}
use Rattle.finite.specs.Sets.{has, set_of}
use Rattle.finite.specs.Lists.{tabulate}
use Rattle.graph.specs.Network.{among, avoid}
use Rattle.nodes.specs.Limits.{max_nodes}

-- RULES 3.1: "A link has no direction. No node is linked to itself": the pair (x, y) joins a and b
unfoldable pub joins : ℕ → ℕ → ℕ → ℕ → Bool
joins x y a b = non (same x y) & (same x a & same y b or same x b & same y a)

-- one of the first k pairs joins a and b
unfoldable pub linked_by : ℕ → List ℕ → ℕ → ℕ → Bool
linked_by k pairs a b = any k (λ i. joins (get_or pairs (2 * i) 0) (get_or pairs (2 * i + 1) 0) a b)

-- a pair of the list joins a and b; a last byte without a second makes no pair
unfoldable pub linked : List ℕ → ℕ → ℕ → Bool
linked pairs = linked_by (length pairs / 2) pairs

-- the neighbours of a as a set: row a of the table, and none past its end
abbrev pub neighbours_of : List ℕ → ℕ → ℕ
neighbours_of t a = get_or t a 0

-- the links of a table: b is a neighbour of a
unfoldable pub edge_of : List ℕ → ℕ → ℕ → Bool
edge_of t a b = has (neighbours_of t a) b

-- the table of the links between the first 64 numbers
unfoldable pub table_from : (ℕ → ℕ → Bool) → List ℕ
table_from edge = tabulate max_nodes (λ a. set_of max_nodes (edge a))

-- the neighbour table of a list of pairs
abbrev pub table_of : List ℕ → List ℕ
table_of pairs = table_from (linked pairs)

-- the table of the remaining graph: the links between two members of R
abbrev pub remaining : (ℕ → Bool) → (ℕ → ℕ → Bool) → List ℕ
remaining R edge = table_from (among R edge)

-- a table of any length with v struck out: of its links those that do not touch v
unfoldable pub struck_out : ℕ → List ℕ → List ℕ
struck_out v t = tabulate (length t) (λ a. set_of max_nodes (avoid v (edge_of t) a))
