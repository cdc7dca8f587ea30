-- `hops::Tables::onward` meets its contract.
use mathlib.Core.Path.{sym}
use native.Mathlib.Omega.{arith}
use Rattle.hops.proofs.Cases.{onward-none, onward_past, onward-next}
use Rattle.hops.proofs.Tables.onward.Goals as goal

pub returns-then-next-eq-NONE : goal.returns-then-next-eq-NONE
returns-then-next-eq-NONE c = sym (onward-none _ _ _ _ _ _ c.if-next-eq-NONE.true)

pub returns-then-n-from : goal.returns-then-n-from
returns-then-n-from c = sym (onward_past _ _ _ _ _ _ c.if-next-eq-NONE.false (let l = c.if-n-from.true in omega arith))

pub returns : goal.returns
returns c = sym (onward-next _ _ _ _ _ _ c.if-next-eq-NONE.false (let l = c.if-n-from.false in omega arith) (rw c.from-2.ensures at c.class_after-then.ensures))
