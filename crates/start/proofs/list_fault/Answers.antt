-- `start::list_fault` meets its contract: each way out is a case of the definition.
use mathlib.Core.Path.{sym, ◌∙◌}
use native.Mathlib.Omega.{arith}
use Rattle.start.proofs.Cases.{odd-list, long-list, found-list, none-list}
use Rattle.start.proofs.list_fault.Goals as goal

pub returns-then-list-ne0 : goal.returns-then-list-ne0
returns-then-list-ne0 c = odd-list _ _ (λ e. omega arith)

pub returns-then-list-gt-MAX_LIST : goal.returns-then-list-gt-MAX_LIST
returns-then-list-gt-MAX_LIST c = long-list _ _ (omega arith)

pub returns-in-Some : goal.returns-in-Some
returns-in-Some c = found-list _ _ (omega arith) (omega arith) (sym c.first_strange.ensures ∙ c.in-Some.is)

pub returns : goal.returns
returns c = none-list _ _ (omega arith) (omega arith) (sym c.first_strange.ensures ∙ c.in_default.is)
