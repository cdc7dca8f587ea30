-- How large a network may be. Every other place cites these names.
use Rattle.std.specs.Prelude.{ℕ}

-- RULES 3.1: "2 to 64 nodes"
abbrev pub max_nodes : ℕ
max_nodes = 64

-- RULES 3.1: "at most 512 links"
abbrev pub max_links : ℕ
max_links = 512

-- RULES 3.1: "a node has at most 16 links"
abbrev pub max_degree : ℕ
max_degree = 16
