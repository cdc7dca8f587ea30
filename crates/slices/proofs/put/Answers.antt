-- `slices::put` meets its contract: a store past the end changes nothing.
use mathlib.Core.Path.{sym}
use lib.Seq.{set_out}
use Rattle.slices.proofs.put.Goals as goal

pub returns-else-i-s : goal.returns-else-i-s
returns-else-i-s g c = sym (set_out c.args.s.now _ _ c.if-i-s.false)
