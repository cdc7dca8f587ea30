-- `records::begun` meets its contract.
use mathlib.Core.Path.{refl}
use Rattle.messages.specs.Fresh.{zeros}
use Rattle.records.proofs.Fresh.{begun-parts}
use Rattle.records.proofs.begun.Goals as goal

pub returns : goal.returns
unfolding zeros
returns c =
    let a = c.args in
    begun-parts a.n a.labels a.free a.falling a.list.now c.few.ensures c.ends-targets.ensures c.ends-heads.ensures refl c.injections-wants.ensures refl refl
