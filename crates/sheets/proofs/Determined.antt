-- The promises of cable and sheet leave one outcome: any two that they allow are equal, answer and buffer.
use Rattle.results.specs.Written.{Written}
use mathlib.Core.Path.{◌≡◌}
use mathlib.Core.List.{List}
use Prim.Native.Nat.{ℕ}
use Rattle.results.proofs.Determined.{writes_determined}
use Rattle.sheets.specs.Promises.{Cables, Sheets}

module _ {before l m : List ℕ} {r t : Written} where
  pub cable_determined : (s : List ℕ) → Cables s before r l → Cables s before t m → (r ≡ t) × (l ≡ m)
  cable_determined s = writes_determined

  pub sheet_determined : (b : List ℕ) → Sheets b before r l → Sheets b before t m → (r ≡ t) × (l ≡ m)
  sheet_determined b x y = writes_determined x.writes y.writes
