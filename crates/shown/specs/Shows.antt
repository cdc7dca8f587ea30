-- RULES 10.3: "Show takes either image and prints `fabric N M T W`, then a line for each node: its number, label and free row."
use Rattle.std.specs.Prelude.{true, List, [], ◌∷◌, ◌++◌, ℕ, zero, suc, ◌+◌, ◌*◌, ◌/◌, length}
use Rattle.finite.specs.Lists.{tabulate}
use Rattle.nodes.specs.Limits.{max_nodes}
use Rattle.cabling.specs.Cabling.{Cabling, links}
use Rattle.lawful.specs.Entry.{entry}
use Rattle.turns.specs.Turns.{all_turns, prohibited_turns}
use Rattle.fabric.specs.Fabric.{label_for}
use Rattle.image.specs.Image.{cabling_in}
use Rattle.image.specs.Faults.{image_fault}
use Rattle.text.specs.Text.{decimal_of}
use Rattle.lines.specs.Lines.{line_of, or_refused}

-- the word `fabric`
abbrev pub fabric_word : List ℕ
fabric_word = 102 ∷ 97 ∷ 98 ∷ 114 ∷ 105 ∷ 99 ∷ []

-- RULES 10.3: "`fabric N M T W`": nodes, links, turns, prohibited turns
abbrev pub fabric_fields : Cabling → List ℕ
fabric_fields c = c.nodes ∷ length c.pairs / 2 ∷ all_turns c.nodes (links c) ∷ prohibited_turns c.nodes (links c) (label_for c) ∷ []

abbrev pub fabric_line : Cabling → List ℕ
fabric_line c = line_of fabric_word (fabric_fields c)

-- the free row of node v: its free entry for each destination t
abbrev pub free_entry : Cabling → ℕ → ℕ → ℕ
free_entry c v t = entry c.nodes (links c) (label_for c) t true v

abbrev pub free_row : Cabling → ℕ → List ℕ
free_row c v = tabulate c.nodes (free_entry c v)

-- RULES 10.3: "its number, label and free row"
abbrev pub node_line : Cabling → ℕ → List ℕ
node_line c v = line_of (decimal_of v) (label_for c v ∷ free_row c v)

-- the lines of the first k nodes
unfoldable pub node_lines : Cabling → ℕ → List ℕ
node_lines c zero = []
node_lines c (suc k) = node_lines c k ++ node_line c k

unfoldable pub report_of : Cabling → List ℕ
report_of c = fabric_line c ++ node_lines c c.nodes

-- the bytes of the first line, at the most: its word, four fields of a space and at most 21 digits, and the line feed
abbrev pub longest_fabric_line : ℕ
longest_fabric_line = 6 + 4 * (1 + 21) + 1

-- those of a node's line: its number of at most two digits, its label and row of at most three each behind a space, and the line feed
abbrev pub longest_node_line : ℕ
longest_node_line = 2 + (1 + max_nodes) * (1 + 3) + 1

abbrev pub longest_show : ℕ
longest_show = longest_fabric_line + max_nodes * longest_node_line

unfoldable pub output_of : List ℕ → List ℕ
output_of b = or_refused (image_fault b) (report_of (cabling_in b))
