-- `records::injections` meets its contract: every message passed has the injection channel of its source.
use mathlib.Core.Path.{refl}
use native.Mathlib.Omega.{arith}
use Rattle.messages.specs.Sizes.{max_messages}
use Rattle.finite.proofs.Filling.{filling_all}
use Rattle.records.proofs.injections.Goals as goal

pub returns : goal.returns
returns c = let i = c.loop-m.invariant in filling_all max_messages i refl (omega arith)
