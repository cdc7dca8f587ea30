-- What Cable and Sheet write is determined: any two outcomes that the promises allow are equal, answer and buffer.
use mathlib.Core.Path.{◌≡◌}
use mathlib.Core.List.{List}
use Prim.Native.Nat.{ℕ}
use Rattle.results.specs.Written.{Writes, room_for, Written}
use Rattle.results.proofs.Determined.{writes_determined}
use Rattle.image.specs.Longest.{longest_links}
use Rattle.sheets.specs.Sheet.{longest_sheet}
use Rattle.sheeted.specs.Prints.{cable_output, sheet_output}

module _ (input : List ℕ) {before l m : List ℕ} {r s : Written} where
  pub cable_output_determined : Writes (room_for longest_links before) (cable_output input) before r l → Writes (room_for longest_links before) (cable_output input) before s m
      → (r ≡ s) × (l ≡ m)
  cable_output_determined = writes_determined

  pub sheet-output_determined : Writes (room_for longest_sheet before) (sheet_output input) before r l → Writes (room_for longest_sheet before) (sheet_output input) before s m
      → (r ≡ s) × (l ≡ m)
  sheet-output_determined = writes_determined
