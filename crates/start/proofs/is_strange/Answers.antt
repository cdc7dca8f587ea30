-- `start::is_strange` meets its contract: the source, then the destination.
use mathlib.Core.Path.{◌∙◌, ap}
use native.Mathlib.Omega.{arith}
use lib.Dec.{leb}
use borrow.Author.Tests.{le-leb}
use Rattle.start.proofs.Cases.{strange-source, strange-target}
use Rattle.start.proofs.is_strange.Goals as goal

pub returns-then-n-from : goal.returns-then-n-from
returns-then-n-from c =
    let e = c.byte.ensures in
    let f = c.from.ensures in
    le-leb _ _ c.if-n-from.true ∙ strange-source _ _ _ (omega arith)

pub returns-else-n-from : goal.returns-else-n-from
returns-else-n-from c =
    let e = c.byte.ensures in
    let f = c.from.ensures in
    ap (leb c.args.n) (c.from-else-n-from.ensures ∙ c.byte-else-n-from.ensures) ∙ strange-target _ _ c.args.p (omega arith)
