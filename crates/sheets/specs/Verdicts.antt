-- What each verdict on a sheet says, in words of lines: the rows of RULES 9.1, in the order of RULES 9.2.
use Rattle.std.specs.Prelude.{◌≡◌, List, [], ◌⊎◌, ℕ, zero, suc, ◌<◌, length, get_or, Err, Ok}
use Rattle.refusal.specs.Verdicts.{Verdict}
use Rattle.refusal.specs.declared.Refusal.{Refusal}
use Rattle.refusal.specs.declared.Refusal.TheVariants.{Line}
use Rattle.cabling.specs.Cabling.{Cabling}
use Rattle.cabling.specs.Verdicts.{Means}
use Rattle.read_lines.specs.Lines.{lines_of}
use Rattle.read_lines.specs.Numbers.{IsLine}
use Rattle.sheets.specs.Sheet.{sheet_of, Tellable}

-- RULES 6.5: "Its first line is N. Then comes a line for each link [..]: a and b": what line i must be
abbrev pub LineOn : ℕ → List ℕ → Type 0
LineOn zero l = IsLine 1 l
LineOn (suc i) l = IsLine 2 l

-- line i is there, or it is line 0; where that is missing it is empty, which no line may be
abbrev pub Looked : List (List ℕ) → ℕ → Type 0
Looked ls i = (i < length ls) ⊎ (i ≡ 0)

-- the lines alone, RULES 9.1: "a line not in 6.5's form, or a number above 255", "the first such line, from 0"
pub data OfLines (ls : List (List ℕ)) : Verdict → Type 0 where
  all-fine : ((i : ℕ) → Looked ls i → LineOn i (get_or ls i [])) → OfLines ls (Ok tt)
  bad_line : {i : ℕ} → Looked ls i → ((j : ℕ) → j < i → LineOn j (get_or ls j [])) → (LineOn i (get_or ls i []) → ⊥) → OfLines ls (Err (Line i))

-- 12, or the text is the sheet of a cabling, good or not: what that is given
pub data OfSheet (s : List ℕ) : Verdict → Type 0 where
  of_lines : {r : Refusal} → OfLines (lines_of s) (Err r) → OfSheet s (Err r)
  of_cabling : {c : Cabling} {v : Verdict} → Tellable c → s ≡ sheet_of c → Means c v → OfSheet s v
