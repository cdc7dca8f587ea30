-- `nodes::without` meets its contract: the word without the set of v alone.
use Rattle.nodes.specs.Limits.{max_nodes}
use Rattle.nodes.proofs.Words.{and_not_one}
use Rattle.nodes.proofs.without.Goals as goal

pub returns : goal.returns
returns c = and_not_one max_nodes c.args.w c.args.v c.ranges.w.fits c.one.ensures
