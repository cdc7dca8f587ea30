-- `picking::choice` meets its contract. The invariant: no message passed is ready.
use mathlib.Core.Path.{sym, ◌∙◌}
use native.Mathlib.Omega.{arith}
use Rattle.picking.proofs.Chosen.{counted-here, counted_none}
use Rattle.picking.proofs.choice.Goals as goal

pub returns-then-is_ready : goal.returns-then-is_ready
returns-then-is_ready c = counted-here c.few-n.ensures _ _ c.loop-k.k (omega arith) (sym c.is_ready.ensures ∙ c.if-is_ready.true) c.loop-k.invariant

pub returns : goal.returns
returns c = counted_none c.few-n.ensures _ _ (λ k b. c.loop-k.invariant k (omega arith))
