-- `calls::whole` ends: less is left after each round.
use Rattle.std.proofs.Common.{length}
use Rattle.calls.proofs.machines.whole.Given as goal

abbrev pub decreases-loop-args : goal.decreases-loop-args
decreases-loop-args l = length l.args.left.now
