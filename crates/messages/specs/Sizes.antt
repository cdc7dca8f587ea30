-- How large a drain record is. Every other place cites these names.
use Rattle.std.specs.Prelude.{ℕ, ◌+◌, ◌*◌, ◌-◌, ◌^◌}
use Rattle.nodes.specs.Limits.{max_nodes}

-- RULES 8.2: "0 to 256 of them"
abbrev pub max_messages : ℕ
max_messages = 256

-- the bytes of so many pairs
abbrev pub max_list : ℕ
max_list = 2 * max_messages

-- an entry of a table belongs to a pair of nodes
abbrev pub max_pairs : ℕ
max_pairs = max_nodes * max_nodes

-- a node has a channel to each node, and two of its own
abbrev pub node_channels : ℕ
node_channels = max_nodes + 2

abbrev pub max_channels : ℕ
max_channels = node_channels * max_nodes

-- the largest count that a record can hold
abbrev pub max_count : ℕ
max_count = 2 ^ 64 - 1
