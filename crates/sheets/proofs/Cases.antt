-- The verdict on a sheet and its links image, from its first line, the lines of links and the pairs that are held of them; and the sheet of a links image.
use Rattle.std.specs.Prelude.{Some, None, Err, Ok}
use Rattle.refusal.specs.Verdicts.{Verdict}
use mathlib.Core.Path.{◌≡◌, sym, ◌∙◌, ap}
use mathlib.Core.List.{List, [], ◌∷◌}
use Prim.Native.Nat.{ℕ, ◌*◌, ◌≤◌, ◌<◌}
use lib.ListN.{length, get_or, take, drop}
use Rattle.nodes.specs.Limits.{max_links}
use Rattle.refusal.specs.declared.Refusal.{Refusal}
use Rattle.refusal.specs.declared.Refusal.TheVariants as refusal
use Rattle.refusal.proofs.Verdicts.{then-fine, then-fault}
use Rattle.cabling.specs.Cabling.{Cabling, cabled}
use Rattle.cabling.specs.Faults.{fault_of}
use Rattle.cabling.proofs.Meaning.{fault-fine}
use Rattle.cabling.proofs.Held.{fault-held, good-held}
use Rattle.format.specs.Contents.{links_kinds}
use Rattle.format.specs.Bytes.{AllBytes}
use Rattle.laid.specs.Laid.{Page, page}
use Rattle.laid.proofs.Pieces.{lays-front}
use Rattle.results.specs.Written.{Writes, Written}
use Rattle.results.proofs.Placed.{writes_where, err-writes, fine-writes}
use Rattle.image.specs.Image.{image_of, cabling_in}
use Rattle.image.specs.Faults.{links_fault}
use Rattle.image.proofs.Faults.{cabling-good, links-fine}
use Rattle.text.specs.Text.{number_in}
use Rattle.read_lines.specs.declared.FirstLine.{FirstLine}
use Rattle.read_lines.specs.Lines.{lines_of}
use Rattle.read_lines.specs.Numbers.{numbers_in, front_line, one_in}
use Rattle.read_lines.proofs.Lines.{lines_none, lines-some}
use Rattle.read_lines.proofs.Front.{Front, one-found, one_missing}
use Rattle.sheets.specs.Sheet.{longest_sheet, pairs_on, cabling_on}
use Rattle.sheets.specs.Faults.{link_lines_fault, lines_fault, sheet_fault}
use Rattle.sheets.specs.Promises.{Cables, Sheets}
use Rattle.sheets.specs.Held.{Holds, with_sheet}
use Rattle.sheets.proofs.Printing.{sheet-lays}
use Rattle.sheets.proofs.Lines.{first_fine, first_bad, lines-missing}

-- no first line
none_first : (s : List ℕ) → None ≡ one_in s → lines_fault (lines_of s) ≡ Err (refusal.Line 0)
none_first [] h = ap lines_fault lines_none ∙ lines-missing
none_first (x ∷ s) h = let (l, ls, e) = lines-some x s in ap lines_fault e ∙ first_bad l ls (one_missing (x ∷ s) h e)

pub cable_none : (s : List ℕ) → None ≡ one_in s → sheet_fault s ≡ Err (refusal.Line 0)
unfolding sheet_fault
cable_none s e = then-fault _ (none_first s e)

module _ (s : List ℕ) {first : FirstLine} (e : Some first ≡ one_in s) {t : List ℕ} (rest : t ≡ drop first.size s) where
  begun : Front 1 s
  begun = (one-found s e).0

  lines : lines_of s ≡ front_line 1 s ∷ lines_of t
  lines = begun.lines ∙ ap (λ (x : List ℕ). front_line 1 s ∷ lines_of x) (sym (rest ∙ ap (λ (k : ℕ). drop k s) (one-found s e).1))

  lines-verdict : lines_fault (lines_of s) ≡ link_lines_fault 1 (lines_of t)
  lines-verdict = ap lines_fault lines ∙ first_fine _ _ begun.fine

  cabling : cabling_on s ≡ cabled first.first (pairs_on (lines_of t))
  unfolding cabling_on numbers_in
  cabling =
      ap (λ (ls : List (List ℕ)). cabled (number_in (get_or ls 0 [])) (pairs_on (drop 1 ls))) lines
      ∙ ap (λ (n : ℕ). cabled n (pairs_on (lines_of t))) (ap (λ (l : List ℕ). get_or l 0 0) begun.again ∙ sym (one-found s e).2)

  -- what reading the lines of links answers
  module _ {v : Verdict} {before : List ℕ} {held : Page} (h : Holds (lines_of t) before v held) where
    pub cable_bad : {r : Refusal} → v ≡ Err r → sheet_fault s ≡ Err r
    unfolding sheet_fault
    cable_bad q = then-fault _ (lines-verdict ∙ sym h.answers ∙ q)

    pub cable_writes : {room left pairs : List ℕ} {answer : Written} → v ≡ Ok tt → 2 * max_links < length before → pairs ≡ take held.at held.bytes
        → Writes (fault_of (cabled first.first pairs)) (image_of links_kinds (cabled first.first pairs)) room answer left
        → Cables s room answer left
    unfolding sheet_fault
    cable_writes {pairs = pairs} q long p w =
        let n = first.first in
        let all = pairs_on (lines_of t) in
        let kept : pairs ≡ take (length before) all = p ∙ h.pairs q in
        let same : fault_of (cabled n pairs) ≡ fault_of (cabled n all) = ap (λ (x : List ℕ). fault_of (cabled n x)) kept ∙ fault-held n all (length before) long in
        let verdict : sheet_fault s ≡ fault_of (cabled n all) = then-fine _ (lines-verdict ∙ sym h.answers ∙ q) ∙ ap fault_of cabling in
        writes_where (fault_of (cabled n pairs)) (same ∙ sym verdict)
        (λ f.
        ap (λ (x : List ℕ). image_of links_kinds (cabled n x)) (kept ∙ good-held n all (length before) long ((fault-fine _).0 (rw kept at f)))
        ∙ ap (image_of links_kinds) (sym cabling))
        w

-- ---- the sheet of a links image

module _ (b : List ℕ) (byte : AllBytes b) {before : List ℕ} where
  pub sheet-refused : {r : Refusal} {answer : Written} → links_fault b ≡ Err r → answer ≡ Err r → Sheets b before answer before
  sheet-refused e a = record { writes = err-writes e a; bytes = byte }

  -- its lines were laid into a blank buffer with room, and their bytes placed
  pub sheet-writes : {c : Cabling} {text after : List ℕ} {p : Page} {answer : Written} (blank : List ℕ) → links_fault b ≡ Ok tt → c ≡ cabling_in b
      → longest_sheet ≤ length blank → p ≡ with_sheet (page blank 0) c → text ≡ take p.at p.bytes
      → Writes (Ok tt) text before answer after → Sheets b before answer after
  sheet-writes blank e is room laid front w =
      let l = sheet-lays (cabling-good b (links-fine b e).1).0 room (laid ∙ ap (with_sheet (page blank 0)) is) in
      record { writes = fine-writes e (front ∙ (lays-front l).0) w; bytes = byte }
