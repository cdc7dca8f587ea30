-- `contents::step_at` meets its contract: an entry is there only where its number is below byte 1, so the sum fits.
use native.Mathlib.Omega.{arith}
use Rattle.format.proofs.Contents.{entry-stored}
use Rattle.contents.proofs.step_at.Goals as goal

pub overflow_add-next : goal.overflow_add-next
overflow_add-next c = let below = (entry-stored _ _ c.in-Some.ensures).1 in omega (arith, (c.type_inv.image 1).fits)
