-- The verdict on a sheet: 12 at the first line that is not in the form of one; then 2 to 7, of the cabling that it tells.
use Rattle.std.specs.Prelude.{true, false, List, [], ◌∷◌, ℕ, suc, Err, Ok}
use Rattle.refusal.specs.declared.Refusal.TheVariants.{Line}
use Rattle.refusal.specs.Verdicts.{and_then, Verdict}
use Rattle.cabling.specs.Faults.{fault_of}
use Rattle.read_lines.specs.Lines.{lines_of}
use Rattle.read_lines.specs.Numbers.{is_line}
use Rattle.sheets.specs.Sheet.{cabling_on}

-- of the lines of links, where the first of them is line i
unfoldable pub link_lines_fault : ℕ → List (List ℕ) → Verdict
link_lines_fault i [] = Ok tt
link_lines_fault i (l ∷ ls) = elim (is_line 2 l) [ true ↦ link_lines_fault (suc i) ls | false ↦ Err (Line i) ]

-- of all lines, RULES 9.1: "Of an empty sheet line 0 is missing"
unfoldable pub lines_fault : List (List ℕ) → Verdict
lines_fault [] = Err (Line 0)
lines_fault (l ∷ ls) = elim (is_line 1 l) [ true ↦ link_lines_fault 1 ls | false ↦ Err (Line 0) ]

-- RULES 9.2: "12 stands where 1 stands: all lines are looked at before N is judged."
unfoldable pub sheet_fault : List ℕ → Verdict
sheet_fault s = and_then (lines_fault (lines_of s)) (fault_of (cabling_on s))
