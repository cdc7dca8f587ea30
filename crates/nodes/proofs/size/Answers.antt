-- `nodes::size` meets its contract: the number of ones is the number of members.
use Rattle.finite.proofs.Sets.{ones_count}
use Rattle.nodes.specs.Limits.{max_nodes}
use Rattle.nodes.proofs.size.Goals as goal

pub returns : goal.returns
returns c = ones_count max_nodes c.args.w c.ranges.w.fits
