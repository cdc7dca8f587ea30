-- The channels of a record and their numbers: of each node those of the hops from it, in the order of the nodes that they lead to, then its two own.
use Rattle.std.specs.Prelude.{ℕ, ◌+◌, ◌*◌}
use Rattle.nodes.specs.Limits.{max_nodes}
use Rattle.messages.specs.Sizes.{node_channels, max_channels}

-- RULES 8.1: "Each link makes two channels, one for each direction.": that of the hop from a to b
abbrev pub hop_channel : ℕ → ℕ → ℕ
hop_channel a b = node_channels * a + b

-- RULES 8.1: "Each node has two channels of its own"
abbrev pub injection : ℕ → ℕ
injection v = node_channels * v + max_nodes

abbrev pub consumption : ℕ → ℕ
consumption v = node_channels * v + (max_nodes + 1)

-- numbers of no channel, in place of the one that a message takes next: RULES 8.3, "it has taken all its channels", or "no channel comes next for it"
abbrev pub all_taken : ℕ
all_taken = max_channels

abbrev pub no_channel : ℕ
no_channel = max_channels + 1
