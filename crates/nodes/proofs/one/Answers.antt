-- `nodes::one` meets its contract: `1 << v` is the set of v alone, and 0 that of a v that is no node.
use Rattle.nodes.specs.Limits.{max_nodes}
use Rattle.nodes.proofs.Words.{one_word, one_out}
use Rattle.nodes.proofs.one.Goals as goal

pub returns-then-v-lt-MAX_NODES : goal.returns-then-v-lt-MAX_NODES
returns-then-v-lt-MAX_NODES c = one_word max_nodes c.args.v c.if-v-lt-MAX_NODES.true

pub returns-else-v-lt-MAX_NODES : goal.returns-else-v-lt-MAX_NODES
returns-else-v-lt-MAX_NODES c = one_out max_nodes c.args.v c.if-v-lt-MAX_NODES.false
