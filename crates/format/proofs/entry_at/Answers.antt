-- `format::entry_at` meets its contract: the number is below byte 1, so no sum wraps, and each of the two tests leaves no entry.
use native.Mathlib.Omega.{arith}
use Rattle.format.proofs.Contents.{entry-there, entry-missing}
use Rattle.format.proofs.entry_at.Goals as goal

pub returns-then-entries-number : goal.returns-then-entries-number
returns-then-entries-number c = entry-missing _ _ (λ l k h. omega arith)

pub returns-then-image-at : goal.returns-then-image-at
returns-then-image-at c = entry-missing _ _ (λ l k h. omega arith)

pub returns : goal.returns
returns c =
    let a = c.args in
    rw (c.number_at.ensures.number, c.number_at-2.ensures.number) (entry-there a.image.now a.number (omega arith) (omega arith) (omega arith))
