-- `nodes::union` meets its contract: a digit of `a | b` is set where it is set in one of the two.
use Rattle.finite.proofs.Sets.{or_set}
use Rattle.nodes.specs.Limits.{max_nodes}
use Rattle.nodes.proofs.union.Goals as goal

pub returns : goal.returns
returns c = or_set max_nodes c.args.a c.args.b c.ranges.a.fits c.ranges.b.fits
