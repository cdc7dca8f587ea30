-- `nodes::common` meets its contract: a digit of `a & b` is set where it is set in both.
use Rattle.finite.proofs.Sets.{and_set}
use Rattle.nodes.specs.Limits.{max_nodes}
use Rattle.nodes.proofs.common.Goals as goal

pub returns : goal.returns
returns c = and_set max_nodes c.args.a c.args.b c.ranges.a.fits c.ranges.b.fits
