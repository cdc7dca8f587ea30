-- `nodes::difference` meets its contract: a digit of `a & !b` is set where it is set in `a` and not in `b`.
use Rattle.nodes.proofs.Words.{and_not}
use Rattle.nodes.specs.Limits.{max_nodes}
use Rattle.nodes.proofs.difference.Goals as goal

pub returns : goal.returns
returns c = and_not max_nodes c.args.a c.args.b c.ranges.a.fits c.ranges.b.fits
