-- `picking::choice` meets its contract. The invariant: no message passed is ready.
use mathlib.Core.Path.{◌≡◌}
use mathlib.Core.Bool.{false}
use Prim.Native.Nat.{ℕ, ◌<◌}
use Rattle.messages.specs.Ready.{ready_at}
use Rattle.picking.specs.Order.{around}
use Rattle.picking.proofs.choice.Given as goal

abbrev pub invariant-loop-k : goal.invariant-loop-k
invariant-loop-k l = (j : ℕ) → j < l.k → ready_at l.wants l.delivered l.holders (around l.n l.look j) ≡ false
