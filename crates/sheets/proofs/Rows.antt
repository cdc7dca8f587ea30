-- The two rows that the verdict on a sheet is in: its lines judged bad, and the cabling that its lines tell judged.
use Rattle.std.specs.Prelude.{Err}
use mathlib.Core.Path.{◌≡◌, refl}
use mathlib.Core.List.{List}
use Prim.Native.Nat.{ℕ}
use Rattle.refusal.specs.declared.Refusal.{Refusal}
use Rattle.cabling.specs.Faults.{fault_of}
use Rattle.cabling.proofs.Meaning.{fault_means}
use Rattle.read_lines.specs.Lines.{lines_of}
use Rattle.sheets.specs.Sheet.{sheet_of, Tellable, cabling_on}
use Rattle.sheets.specs.Verdicts.{OfLines, OfSheet, of_lines, of_cabling}

-- 12 stands where 1 stands: whatever N and the pairs are
pub row-lines : (s : List ℕ) {r : Refusal} → OfLines (lines_of s) (Err r) → OfSheet s (Err r)
row-lines s o = of_lines o

pub row-cabling : (s : List ℕ) → Tellable (cabling_on s) → s ≡ sheet_of (cabling_on s) → OfSheet s (fault_of (cabling_on s))
row-cabling s t q = of_cabling t q ((fault_means (cabling_on s) (fault_of (cabling_on s))).0 refl)
