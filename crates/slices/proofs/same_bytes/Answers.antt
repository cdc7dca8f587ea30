-- `slices::same_bytes` meets its contract: what the library's comparison answers says whether the two are alike.
use Rattle.slices.proofs.Same.{equal_alike}
use Rattle.slices.proofs.same_bytes.Goals as goal

pub returns : goal.returns
returns c = equal_alike _ _ _ c.eq.ensures
