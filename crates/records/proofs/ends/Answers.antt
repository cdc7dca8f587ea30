-- `records::ends` meets its contract: every message passed has its byte of the list.
use mathlib.Core.Path.{refl}
use native.Mathlib.Omega.{arith}
use Rattle.messages.specs.Sizes.{max_messages}
use Rattle.finite.proofs.Filling.{filling_all}
use Rattle.records.proofs.ends.Goals as goal

pub returns : goal.returns
returns c = let i = c.loop-m.invariant in filling_all max_messages i refl (omega arith)
