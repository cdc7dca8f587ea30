-- The promise of a call that writes leaves one outcome: any two that it allows are equal, answer and buffer.
use Rattle.refusal.specs.Verdicts.{Verdict}
use mathlib.Core.Path.{◌≡◌, sym, ◌∙◌}
use mathlib.Core.List.{List}
use Prim.Native.Nat.{ℕ}
use Rattle.results.specs.Written.{Writes, Written}

pub writes_determined : {v : Verdict} {bytes before : List ℕ} {r s : Written} {l m : List ℕ} → Writes v bytes before r l → Writes v bytes before s m → (r ≡ s) × (l ≡ m)
writes_determined x y = (x.answers ∙ sym y.answers, x.leaves ∙ sym y.leaves)
