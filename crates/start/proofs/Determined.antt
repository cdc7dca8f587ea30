-- Any two answers that the promises of `start` and `fresh` allow are equal.
use Rattle.std.specs.Prelude.{Result}
use Rattle.refusal.specs.declared.Refusal.{Refusal}
use mathlib.Core.Path.{◌≡◌, sym, ◌∙◌}
use mathlib.Core.List.{List}
use Prim.Native.Nat.{ℕ}
use Rattle.messages.specs.declared.Record.{Record}
use Rattle.start.specs.declared.Started.{Started}
use Rattle.start.specs.Start.{start_fault, fresh_of, fresh_by, start_of}

pub start_determined : (old : Record) (b list : List ℕ) (x y : Started) → x ≡ start_of old b list → y ≡ start_of old b list → x ≡ y
start_determined old b list x y e f = e ∙ sym f

pub fresh_determined : (b list : List ℕ) (x y : Result Record Refusal) → x ≡ fresh_by (start_fault b list) (fresh_of b list) → y ≡ fresh_by (start_fault b list) (fresh_of b list) → x ≡ y
fresh_determined b list x y e f = e ∙ sym f
