-- A text whose lines have no fault is the sheet of what it tells; it is accepted exactly when that is a good cabling, and no two cablings have the same sheet.
use Rattle.std.specs.Prelude.{Ok}
use mathlib.Core.Path.{◌≡◌, refl, sym, ◌∙◌, ap, ap₂}
use mathlib.Core.Bool.{true}
use mathlib.Core.List.{List, [], ◌∷◌, ◌++◌}
use mathlib.Core.Logic.{◌↔◌}
use Prim.Native.Nat.{ℕ, zero, suc, ◌%◌, ◌≤◌, ◌<◌}
use native.Mathlib.Omega.{arith}
use lib.ListN.{length, get_or, drop}
use Rattle.finite.specs.Lists.{joined_up}
use Rattle.finite.proofs.Truth.{bcase, both, and_l, below-lt, lt-below}
use Rattle.refusal.proofs.Verdicts.{fine-fault, then-fine, and_then_fine}
use Rattle.cabling.specs.Cabling.{Cabling, cabled, Good}
use Rattle.cabling.specs.Faults.{fault_of}
use Rattle.cabling.proofs.Meaning.{fault-fine}
use Rattle.cabling.proofs.Joined.{good-low}
use Rattle.format.specs.Bytes.{AllBytes}
use Rattle.text.specs.Text.{number_in}
use Rattle.read_lines.specs.Lines.{lines_of}
use Rattle.read_lines.specs.Numbers.{are_bytes, numbers_line, numbers_in, is_line}
use Rattle.read_lines.proofs.Lines.{lines_none, lines-joined, line_first}
use Rattle.read_lines.proofs.Numbers.{bytes-two-iff, line-numbers, line-fine, line-bytes, line_same}
use Rattle.sheets.specs.Sheet.{link_lines, sheet_of, Tellable, longest_sheet, pairs_on, cabling_on}
use Rattle.sheets.specs.Faults.{link_lines_fault, lines_fault, sheet_fault}
use Rattle.sheets.proofs.Printing.{sheet-size}
use Rattle.sheets.proofs.Lines.{link-fine, link_bad, first_fine, first_bad, lines-missing, links-missing}

-- ---- what is printed is read back

-- the lines of links: each is one, and they tell the pairs
link-lines-fine : (i : ℕ) (pairs : List ℕ) → ((p : ℕ) → get_or pairs p 0 < 256) → link_lines_fault i (lines_of (link_lines pairs)) ≡ Ok tt
unfolding link_lines
link-lines-fine i [] low = ap (link_lines_fault i) lines_none ∙ links-missing i
link-lines-fine i (a ∷ []) low = ap (link_lines_fault i) lines_none ∙ links-missing i
link-lines-fine i (a ∷ b ∷ pairs) low =
    ap (link_lines_fault i) (line_first (a ∷ b ∷ []) (link_lines pairs)) ∙ link-fine i _ _ (line-fine (a ∷ b ∷ []) ((bytes-two-iff a b).1 (low 0, low 1)))
    ∙ link-lines-fine (suc i) pairs (λ p. low (suc (suc p)))

pairs-back : (pairs : List ℕ) → length pairs % 2 ≡ 0 → ((p : ℕ) → get_or pairs p 0 < 256) → pairs_on (lines_of (link_lines pairs)) ≡ pairs
unfolding link_lines pairs_on
pairs-back [] even low = ap pairs_on lines_none
pairs-back (a ∷ []) even low = absurd (omega arith)
pairs-back (a ∷ b ∷ pairs) even low =
    ap pairs_on (line_first (a ∷ b ∷ []) (link_lines pairs))
    ∙ ap₂ ◌++◌ (line-numbers (a ∷ b ∷ []) ((bytes-two-iff a b).1 (low 0, low 1))) (pairs-back pairs (omega arith) (λ p. low (suc (suc p))))

pub good_tellable : {c : Cabling} → Good c → Tellable c
good_tellable {c} g = record { even = g.even; byte = byte }
  where
    byte : AllBytes (c.nodes ∷ c.pairs)
    byte zero = let few = g.few in omega arith
    byte (suc i) = let few = g.few in let l = good-low g i in omega arith

module _ {c : Cabling} (t : Tellable c) where
  low : (p : ℕ) → get_or c.pairs p 0 < 256
  low p = t.byte (suc p)

  first_byte : are_bytes (c.nodes ∷ []) ≡ true
  unfolding are_bytes
  first_byte = both (lt-below (t.byte 0)) refl

  sheet-lines : lines_of (sheet_of c) ≡ numbers_line (c.nodes ∷ []) ∷ lines_of (link_lines c.pairs)
  unfolding sheet_of
  sheet-lines = line_first (c.nodes ∷ []) (link_lines c.pairs)

  lines-fine : lines_fault (lines_of (sheet_of c)) ≡ Ok tt
  lines-fine = ap lines_fault sheet-lines ∙ first_fine _ _ (line-fine (c.nodes ∷ []) first_byte) ∙ link-lines-fine 1 c.pairs low

  pub sheet-cabling : cabling_on (sheet_of c) ≡ c
  unfolding cabling_on numbers_in
  sheet-cabling =
      let n : number_in (numbers_line (c.nodes ∷ [])) ≡ c.nodes = ap (λ (l : List ℕ). get_or l 0 0) (line-numbers (c.nodes ∷ []) first_byte) in
      ap (λ (ls : List (List ℕ)). cabled (number_in (get_or ls 0 [])) (pairs_on (drop 1 ls))) sheet-lines
      ∙ ap₂ cabled n (pairs-back c.pairs t.even low)

  -- the checks of the sheet are those of the cabling, whatever these find
  pub sheet-fault : sheet_fault (sheet_of c) ≡ fault_of c
  unfolding sheet_fault
  sheet-fault = then-fine _ lines-fine ∙ ap fault_of sheet-cabling

-- ---- lines without a fault are what their numbers print

link-lines-same : (i : ℕ) (ls : List (List ℕ)) → link_lines_fault i ls ≡ Ok tt → joined_up ls ≡ link_lines (pairs_on ls)
unfolding joined_up link_lines pairs_on numbers_in
link-lines-same i [] h = refl
link-lines-same i (l ∷ ls) h =
    bcase (is_line 2 l) (λ t. ap₂ ◌++◌ (line_same 2 l t) (link-lines-same (suc i) ls (sym (link-fine i l ls t) ∙ h))) (λ t. fine-fault h (link_bad i l ls t))

-- and these are whole pairs of bytes
one_more : (a : ℕ) (l : List ℕ) → a < 256 → AllBytes l → AllBytes (a ∷ l)
one_more a l h f zero = h
one_more a l h f (suc i) = f i

two-more : (a b : ℕ) (l : List ℕ) → are_bytes (a ∷ b ∷ []) ≡ true → AllBytes l → AllBytes (a ∷ b ∷ l)
two-more a b l h f = let (p, q) = (bytes-two-iff a b).0 h in one_more a (b ∷ l) p (one_more b l q f)

link-lines-pairs : (i : ℕ) (ls : List (List ℕ)) → link_lines_fault i ls ≡ Ok tt → (length (pairs_on ls) % 2 ≡ 0) × AllBytes (pairs_on ls)
unfolding pairs_on numbers_in
link-lines-pairs i [] h = (refl, λ j. omega arith)
link-lines-pairs i (l ∷ ls) h =
    bcase (is_line 2 l)
    (λ t. let (even, byte) = link-lines-pairs (suc i) ls (sym (link-fine i l ls t) ∙ h) in (omega arith, two-more _ _ (pairs_on ls) (line-bytes 2 l t) byte))
    (λ t. fine-fault h (link_bad i l ls t))

abbrev told_by : List (List ℕ) → Cabling
told_by ls = cabled (number_in (get_or ls 0 [])) (pairs_on (drop 1 ls))

lines_tell : (ls : List (List ℕ)) → lines_fault ls ≡ Ok tt → Tellable (told_by ls) × (joined_up ls ≡ sheet_of (told_by ls))
unfolding joined_up sheet_of numbers_in are_bytes
lines_tell [] h = fine-fault h lines-missing
lines_tell (l ∷ ls) h =
    bcase (is_line 1 l)
    (λ t.
    let links = sym (first_fine l ls t) ∙ h in
    let (even, byte) = link-lines-pairs 1 ls links in (
      record { even = even; byte = one_more _ (pairs_on ls) (below-lt _ _ (and_l _ _ (line-bytes 1 l t))) byte },
      ap₂ ◌++◌ (line_same 1 l t) (link-lines-same 1 ls links),
    ))
    (λ t. fine-fault h (first_bad l ls t))

-- a text whose lines have no fault is the sheet of what it tells
pub told-sheet : (s : List ℕ) → lines_fault (lines_of s) ≡ Ok tt → Tellable (cabling_on s) × (s ≡ sheet_of (cabling_on s))
unfolding cabling_on
told-sheet s h = let (t, e) = lines_tell (lines_of s) h in (t, sym (lines-joined s) ∙ e)

pub lines-fine-iff : (s : List ℕ) → (lines_fault (lines_of s) ≡ Ok tt) ↔ ((c : Cabling) × Tellable c × (s ≡ sheet_of c))
lines-fine-iff s = (λ h. let (t, e) = told-sheet s h in (cabling_on s, t, e), λ (c, t, e). ap (λ (x : List ℕ). lines_fault (lines_of x)) e ∙ lines-fine t)

-- ---- so only sheets of good cablings are accepted

pub sheet-accepted : {c : Cabling} → Good c → sheet_fault (sheet_of c) ≡ Ok tt
sheet-accepted {c} g = sheet-fault (good_tellable g) ∙ (fault-fine c).1 g

pub accepted-sheet : (s : List ℕ) → sheet_fault s ≡ Ok tt → Good (cabling_on s) × (s ≡ sheet_of (cabling_on s))
unfolding sheet_fault
accepted-sheet s h =
    let (lines, cabling) = and_then_fine (lines_fault (lines_of s)) (fault_of (cabling_on s)) h in
    ((fault-fine (cabling_on s)).0 cabling, (told-sheet s lines).1)

pub sheet-accepted-iff : (s : List ℕ) → (sheet_fault s ≡ Ok tt) ↔ ((c : Cabling) × Good c × (s ≡ sheet_of c))
sheet-accepted-iff s = (λ h. let (g, e) = accepted-sheet s h in (cabling_on s, g, e), λ (c, g, e). ap sheet_fault e ∙ sheet-accepted g)

-- RULES 2.2: "Every accepted cabling has exactly one sheet."
pub one-sheet-iff : {c : Cabling} → Good c → (s : List ℕ) → ((sheet_fault s ≡ Ok tt) × (cabling_on s ≡ c)) ↔ (s ≡ sheet_of c)
one-sheet-iff g s = (
  λ (h, e). (accepted-sheet s h).1 ∙ ap sheet_of e,
  λ e. (ap sheet_fault e ∙ sheet-accepted g, ap cabling_on e ∙ sheet-cabling (good_tellable g)),
)

-- and no two cablings have the same
pub sheet_unique : {c d : Cabling} → Good c → Good d → sheet_of c ≡ sheet_of d → c ≡ d
sheet_unique g h e = sym (sheet-cabling (good_tellable g)) ∙ ap cabling_on e ∙ sheet-cabling (good_tellable h)

-- RULES 6.5: "A sheet has at most 3,075 bytes."
pub accepted-size : (s : List ℕ) → sheet_fault s ≡ Ok tt → length s ≤ longest_sheet
accepted-size s h = let (g, e) = accepted-sheet s h in let l = sheet-size g in let q = ap length e in omega arith
