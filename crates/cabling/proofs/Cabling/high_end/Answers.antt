-- `cabling::Cabling::high_end` meets its contract: past the end of a list stands the default.
use mathlib.Core.Path.{sym}
use native.Mathlib.Omega.{arith}
use lib.ListN.{get_or-eq_default}
use Rattle.cabling.proofs.Cabling.high_end.Goals as goal

pub returns-else-p-self : goal.returns-else-p-self
returns-else-p-self c = sym (get_or-eq_default c.args.self.now.pairs.now 0 (omega arith))
