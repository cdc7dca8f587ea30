-- What Show prints is determined: any two outcomes that `output` may have are equal, answer and buffer.
use mathlib.Core.Path.{◌≡◌}
use mathlib.Core.List.{List}
use Prim.Native.Nat.{ℕ}
use Rattle.results.specs.Written.{Writes, room_for, Written}
use Rattle.results.proofs.Determined.{writes_determined}
use Rattle.shown.specs.Shows.{longest_show, output_of}

pub shown_determined : (input : List ℕ) {before l m : List ℕ} {r s : Written} → Writes (room_for longest_show before) (output_of input) before r l
    → Writes (room_for longest_show before) (output_of input) before s m → (r ≡ s) × (l ≡ m)
shown_determined input = writes_determined
