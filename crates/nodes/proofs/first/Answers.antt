-- `nodes::first` meets its contract: `(1 << n) - 1` is the set of the first n, and `!0` that of all.
use Rattle.nodes.specs.Limits.{max_nodes}
use Rattle.nodes.proofs.Words.{first_word, first-all}
use Rattle.nodes.proofs.first.Goals as goal

pub returns-then-n-lt-MAX_NODES : goal.returns-then-n-lt-MAX_NODES
returns-then-n-lt-MAX_NODES c = first_word max_nodes c.args.n c.if-n-lt-MAX_NODES.true

pub returns-else-n-lt-MAX_NODES : goal.returns-else-n-lt-MAX_NODES
returns-else-n-lt-MAX_NODES c = first-all max_nodes c.args.n c.if-n-lt-MAX_NODES.false
