-- `worked::table` meets its contract: both sides compute to the same rows.
use Rattle.std.proofs.Common.{refl}
use Rattle.worked.proofs.table.Goals as goal

pub returns : goal.returns
returns c = refl
