-- `machine::marked` meets its contract.
use mathlib.Core.Path.{◌∙◌, ap}
use Prim.Native.Nat.{ℕ}
use Rattle.finite.specs.Truth.{non, same}
use Rattle.finite.proofs.Truth.{not-non}
use Rattle.machine.proofs.marked.Goals as goal

pub returns : goal.returns
unfolding same
returns c = not-non _ ∙ ap (λ (x : ℕ). non (same x 0)) c.byte.ensures
