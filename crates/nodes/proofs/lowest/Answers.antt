-- `nodes::lowest` meets its contract: the trailing zeros are the numbers before the lowest member.
use Rattle.finite.proofs.Sets.{trailing_least}
use Rattle.nodes.specs.Limits.{max_nodes}
use Rattle.nodes.proofs.lowest.Goals as goal

pub returns : goal.returns
returns c = trailing_least max_nodes c.args.w
