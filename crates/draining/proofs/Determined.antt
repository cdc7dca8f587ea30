-- Any two answers that the promise of `drain` allows are equal.
use mathlib.Core.Path.{◌≡◌, sym, ◌∙◌}
use mathlib.Core.List.{List}
use Prim.Native.Nat.{ℕ}
use Rattle.messages.specs.declared.Record.{Record}
use Rattle.draining.specs.declared.Drained.{Drained}
use Rattle.draining.specs.Drained.{drain_of}

pub drain_determined : (old : Record) (b list : List ℕ) (seed : ℕ) (x y : Drained) → x ≡ drain_of old b list seed → y ≡ drain_of old b list seed → x ≡ y
drain_determined old b list seed x y e f = e ∙ sym f
