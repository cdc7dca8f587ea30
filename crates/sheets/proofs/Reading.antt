-- The lines of links read one by one: the first bad line, and the pairs, of which the front is held.
use Rattle.std.specs.Prelude.{Some, None, Err, Ok}
use mathlib.Core.Path.{◌≡◌, refl, sym, ◌∙◌, ap}
use mathlib.Core.List.{List, [], ◌∷◌, ◌++◌, append_assoc, append-nil}
use Prim.Native.Nat.{ℕ, ◌+◌, ◌%◌, ◌≤◌, ◌<◌}
use native.Mathlib.Numerals.{add-one}
use native.Mathlib.Omega.{arith}
use lib.ListN.{length, take, drop, length-append, length-drop}
use lib.Seq.{take-nil, take_all, take-append-le, length-take-le}
use Rattle.finite.specs.Truth.{below}
use Rattle.finite.proofs.Truth.{bcase, below-lt, below-le}
use Rattle.refusal.specs.declared.Refusal.TheVariants as refusal
use Rattle.refusal.proofs.Verdicts.{fine-fault}
use Rattle.laid.specs.Laid.{Page, page, behind}
use Rattle.laid.specs.Lays.{Lays}
use Rattle.laid.proofs.Pieces.{lays-none, lays_more, lays_as, lays-at, lays-length, lays-front, behind-none}
use Rattle.read_lines.specs.Lines.{lines_of}
use Rattle.read_lines.specs.Numbers.{are_bytes, numbers_in, front_line, two_in}
use Rattle.read_lines.specs.declared.FirstLine.{FirstLine}
use Rattle.read_lines.proofs.Lines.{lines_none, lines-some}
use Rattle.read_lines.proofs.Numbers.{bytes-two-iff, line-some}
use Rattle.read_lines.proofs.Front.{two-found, two-missing}
use Rattle.sheets.specs.Sheet.{pairs_on}
use Rattle.sheets.specs.Faults.{link_lines_fault}
use Rattle.sheets.specs.Held.{Holds}

-- a text has a line, or is empty
lines-there : (s : List ℕ) → 0 < length s → (l : List ℕ) × (ls : List (List ℕ)) × (lines_of s ≡ l ∷ ls)
lines-there [] h = absurd (omega arith)
lines-there (x ∷ s) h = lines-some x s

lines-gone : (s : List ℕ) → length s ≤ 0 → lines_of s ≡ []
lines-gone [] h = lines_none
lines-gone (x ∷ s) h = absurd (omega arith)

-- ---- a pair behind those that are held

module _ {before : List ℕ} (done : List ℕ) {p : Page} (even : length before % 2 ≡ 0) (pairs : length done % 2 ≡ 0) (l : Lays before p (take (length before) done)) where
  pub held_more : (a b : ℕ) {q : Page} → q ≡ behind p (a ∷ b ∷ []) → Lays before q (take (length before) (done ++ a ∷ b ∷ []))
  held_more a b {q} e =
      let size = length-append done (a ∷ b ∷ []) in
      bcase (below (length done + 1) (length before))
      (λ t.
      let h = below-lt _ _ t in
      lays_as (lays_more (a ∷ b ∷ []) (lays_as l (take_all (length before) done (omega arith))) e (omega arith))
      (sym (take_all (length before) (done ++ a ∷ b ∷ []) (omega arith))))
      (λ t.
      let h = below-le _ _ t in
      let at = lays-at l in
      let long = lays-length l in
      let whole = length-take-le (length before) done (omega arith) in
      rw (e ∙ sym (behind-none p.bytes p.at (a ∷ b ∷ []) (omega arith)))
      (lays_as l (sym (take-append-le (length before) done (a ∷ b ∷ []) (omega arith)))))

-- the numbers of a line that is found are bytes
pub found-bytes : (t : List ℕ) {line : FirstLine} → Some line ≡ two_in t → (line.first < 256) × (line.second < 256)
found-bytes t {line} e =
    let (f, size, ns) = two-found t e in
    (bytes-two-iff line.first line.second).0 (ap are_bytes ns ∙ f.byte)

-- it is not empty, and leaves less of the text
pub found-less : (t : List ℕ) {line : FirstLine} → Some line ≡ two_in t → 0 < length t → length (drop line.size t) < length t
found-less t {line} e h =
    let size = (two-found t e).1 in
    let some = line-some (numbers_in 2 t) in
    simp length-drop (omega arith)

-- ---- line by line

-- what is left of the text tells what all of it tells, with the pairs that were read in front
pub record LinesRead (s before left : List ℕ) (i : ℕ) (held : Page) : Type 0 where
  pub even : length before % 2 ≡ 0
  pub verdict : link_lines_fault i (lines_of left) ≡ link_lines_fault 1 (lines_of s)
  pub done : List ℕ
  pub two : length done % 2 ≡ 0
  pub rest : done ++ pairs_on (lines_of left) ≡ pairs_on (lines_of s)
  pub laid : Lays before held (take (length before) done)

pub lines_read_begin : (s before : List ℕ) → length before % 2 ≡ 0 → LinesRead s before s 1 (page before 0)
lines_read_begin s before even = record {
  even = even;
  verdict = refl;
  done = [];
  two = refl;
  rest = refl;
  laid = lays_as (lays-none before) (sym (take-nil (length before)));
}

module _ {s before left : List ℕ} {i : ℕ} {held : Page} (r : LinesRead s before left i held) where
  -- it is a line of two numbers, a and b
  pub lines_read_more : {line : FirstLine} {next : Page} → Some line ≡ two_in left
      → next ≡ behind held (line.first ∷ line.second ∷ []) → LinesRead s before (drop line.size left) (i + 1) next
  unfolding link_lines_fault pairs_on
  lines_read_more {line} e p =
      let a = line.first in
      let b = line.second in
      let (f, size, ns) = two-found left e in
      let more : List (List ℕ) = lines_of (drop line.size left) in
      let lines : lines_of left ≡ front_line 2 left ∷ more = f.lines ∙ ap (λ (k : ℕ). front_line 2 left ∷ lines_of (drop k left)) (sym size) in
      let two = r.two in
      let all = length-append r.done (a ∷ b ∷ []) in
      record {
        even = r.even;
        verdict = ap (λ (j : ℕ). link_lines_fault j more) (add-one i) ∙ sym (ap (link_lines_fault i) lines ∙ rw (f.fine, link_lines_fault)) ∙ r.verdict;
        done = r.done ++ a ∷ b ∷ [];
        two = omega arith;
        rest = append_assoc r.done (a ∷ b ∷ []) _ ∙ ap (r.done ++◌) (ap (◌++ pairs_on more) (ns ∙ sym f.again) ∙ sym (ap pairs_on lines)) ∙ r.rest;
        laid = held_more r.done r.even r.two r.laid a b p;
      }

  -- it is none: 12 at this line
  pub lines_read_bad : None ≡ two_in left → 0 < length left → Holds (lines_of s) before (Err (refusal.Line i)) held
  unfolding link_lines_fault
  lines_read_bad e h =
      let (l, ls, lines) = lines-there left h in
      record {
        answers = sym (ap (link_lines_fault i) lines ∙ rw (two-missing left e lines, link_lines_fault)) ∙ r.verdict;
        pairs = λ f. fine-fault f refl;
      }

  -- no line is left
  pub lines_read_end : length left ≤ 0 → Holds (lines_of s) before (Ok tt) held
  unfolding link_lines_fault pairs_on
  lines_read_end h =
      let lines : lines_of left ≡ [] = lines-gone left h in
      record {
        answers = sym (ap (link_lines_fault i) lines) ∙ r.verdict;
        pairs = λ f.
            (lays-front r.laid).0
            ∙ ap (take (length before)) (sym (append-nil r.done) ∙ sym (ap (λ (x : List (List ℕ)). r.done ++ pairs_on x) lines) ∙ r.rest);
      }
