-- The verdict on a sheet means what RULES 9.1 says: 12 at the first line that is not as it must be, else what the cabling is given.
use Rattle.std.specs.Prelude.{Err, Ok}
use Rattle.refusal.specs.Verdicts.{Verdict}
use mathlib.Core.Path.{◌≡◌, refl, ◌∙◌, ap}
use mathlib.Core.List.{List, [], ◌∷◌}
use mathlib.Core.Logic.{◌↔◌, inl, inr, ⊎_elim}
use Prim.Native.Nat.{ℕ}
use native.Mathlib.Omega.{arith}
use lib.ListN.{length}
use Rattle.finite.specs.Truth.{below}
use Rattle.finite.proofs.Truth.{bcase, below-lt, below-le}
use Rattle.refusal.specs.declared.Refusal.TheVariants.{Short, Line}
use Rattle.refusal.proofs.Verdicts.{then-fine, then-fault}
use Rattle.cabling.specs.Cabling.{Cabling}
use Rattle.cabling.specs.Faults.{fault_of}
use Rattle.cabling.specs.Verdicts.{Means}
use Rattle.cabling.proofs.Meaning.{fault_means}
use Rattle.read_lines.specs.Lines.{lines_of}
use Rattle.read_lines.specs.Numbers.{IsLine}
use Rattle.read_lines.proofs.Numbers.{line-some}
use Rattle.sheets.specs.Sheet.{cabling_on}
use Rattle.sheets.specs.Faults.{lines_fault, sheet_fault}
use Rattle.sheets.specs.Verdicts.{LineOn, OfLines, all-fine, bad_line, OfSheet, of_lines, of_cabling}
use Rattle.sheets.proofs.Lines.{Judged, judged_fine, judged_bad, lines_judged, lines-missing}
use Rattle.sheets.proofs.Sheets.{told-sheet, sheet-fault}
use Rattle.sheets.proofs.Rows.{row-lines, row-cabling}

-- no list of numbers prints nothing
no_line : (k : ℕ) → IsLine k [] → ⊥
no_line k (ns, n, b, e) = let h = line-some ns in let z = ap length e in absurd (omega arith)

-- ---- the lines

lines-row : (ls : List (List ℕ)) → OfLines ls (lines_fault ls)
lines-row [] = rw lines-missing (bad_line (inr refl) (λ j h. absurd (omega arith)) (no_line 1))
lines-row (l ∷ ls) = go (lines_judged l ls)
  where
    go : {v : Verdict} → Judged LineOn (l ∷ ls) 0 v → OfLines (l ∷ ls) v
    go (judged_fine f) = all-fine (λ i h. f i (⊎_elim (λ k. k) (λ e. omega arith) h))
    go (judged_bad j {k} e h f n) = let q : k ≡ j = omega arith in rw q (bad_line (inl h) f n)

-- no two rows hold of the same lines
lines-one : {ls : List (List ℕ)} {v w : Verdict} → OfLines ls v → OfLines ls w → v ≡ w
lines-one (all-fine f) (all-fine g) = refl
lines-one (all-fine f) (bad_line l g n) = absurd (n (f _ l))
lines-one (bad_line l f n) (all-fine g) = absurd (n (g _ l))
lines-one (bad_line {i = i} l f n) (bad_line {i = j} m g o) =
    bcase (below i j) (λ t. absurd (n (g i (below-lt _ _ t))))
    (λ t.
    bcase (below j i) (λ u. absurd (o (f j (below-lt _ _ u))))
    (λ u. let a = below-le _ _ t in let b = below-le _ _ u in let e : i ≡ j = omega arith in ap (λ (k : ℕ). Err (Line k)) e))

-- 12 at i exactly where the lines below i are as they must be and line i is not
pub lines_means : (ls : List (List ℕ)) (v : Verdict) → (lines_fault ls ≡ v) ↔ OfLines ls v
lines_means ls v = (λ e. rw (← e) (lines-row ls), lines-one (lines-row ls))

-- ---- the sheet

module _ (s : List ℕ) where
  row : OfSheet s (sheet_fault s)
  unfolding sheet_fault
  row = go (lines_fault (lines_of s)) refl
    where
      go : (v : Verdict) → lines_fault (lines_of s) ≡ v → OfSheet s (sheet_fault s)
      go (Ok _) e = let (t, q) = told-sheet s e in rw (then-fine (fault_of (cabling_on s)) e) (row-cabling s t q)
      go (Err r) e = rw (then-fault (fault_of (cabling_on s)) e) (row-lines s ((lines_means _ _).0 e))

  given : {v : Verdict} → OfSheet s v → sheet_fault s ≡ v
  unfolding sheet_fault
  given (of_lines o) = then-fault _ ((lines_means _ _).1 o)
  given (of_cabling {c} t q m) = ap sheet_fault q ∙ sheet-fault t ∙ (fault_means c _).1 m

  -- each verdict is given exactly where its row of specs/Verdicts.antt holds
  pub sheet_means : (v : Verdict) → (sheet_fault s ≡ v) ↔ OfSheet s v
  sheet_means v = (λ e. rw (← e) row, given)

  -- so 12 is given for the lines alone, and 9 never
  pub line_means : (i : ℕ) → (sheet_fault s ≡ Err (Line i)) ↔ OfLines (lines_of s) (Err (Line i))
  line_means i = (λ e. lines ((sheet_means (Err (Line i))).0 e), λ o. given (of_lines o))
    where
      none : {c : Cabling} → Means c (Err (Line i)) → ⊥
      none = elim [ ]

      lines : OfSheet s (Err (Line i)) → OfLines (lines_of s) (Err (Line i))
      lines (of_lines o) = o
      lines (of_cabling t q m) = absurd (none m)

  pub sheet-not-short : sheet_fault s ≡ Err Short → ⊥
  sheet-not-short e = neither ((sheet_means (Err Short)).0 e)
    where
      no-line-short : {ls : List (List ℕ)} → OfLines ls (Err Short) → ⊥
      no-line-short = elim [ ]

      none : {c : Cabling} → Means c (Err Short) → ⊥
      none = elim [ ]

      neither : OfSheet s (Err Short) → ⊥
      neither (of_lines o) = no-line-short o
      neither (of_cabling t q m) = none m
