-- `calls::steps` ends: less is left after each round.
use Rattle.std.proofs.Common.{length}
use Rattle.calls.proofs.machines.steps.Given as goal

abbrev pub decreases-loop-round : goal.decreases-loop-round
decreases-loop-round l = length l.args.left.now
