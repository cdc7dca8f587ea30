-- The lines of a cabling laid one behind the other are its sheet, and how long a sheet may be.
use mathlib.Core.Path.{◌≡◌, refl, sym, ap}
use mathlib.Core.List.{List, [], ◌∷◌, ◌++◌, append_assoc, append-nil}
use Prim.Native.Nat.{ℕ, zero, suc, ◌+◌, ◌*◌, ◌≤◌, ◌<◌}
use native.Mathlib.Omega.{arith}
use lib.ListN.{length, get_or, drop, replicate, length-replicate}
use Rattle.cabling.specs.Cabling.{Cabling, Good}
use Rattle.cabling.proofs.Joined.{good-low}
use Rattle.nodes.specs.Limits.{max_nodes}
use Rattle.laid.specs.Laid.{Page, page}
use Rattle.laid.specs.Lays.{Lays}
use Rattle.laid.proofs.Pieces.{Within, within_none, within_as}
use Rattle.text.specs.Text.{decimal_of}
use Rattle.text.proofs.Decimal.{decimal-short}
use Rattle.lines.specs.Lines.{with_line}
use Rattle.lines.proofs.Whole.{Short, within-line}
use Rattle.read_lines.specs.Numbers.{numbers_line}
use Rattle.sheets.specs.Sheet.{link_lines, sheet_of, node_digits, longest_sheet}
use Rattle.sheets.specs.Held.{with_links, with_sheet}

-- ---- pair by pair, as the loop lays their lines

pub links_next : (now next : Page) (left : List ℕ) → 2 ≤ length left → next ≡ with_line now (decimal_of (get_or left 0 0)) (get_or left 1 0 ∷ [])
    → with_links next (drop 2 left) ≡ with_links now left
unfolding with_links
links_next now next [] h e = absurd (omega arith)
links_next now next (a ∷ []) h e = absurd (omega arith)
links_next now next (a ∷ b ∷ left) h e = ap (λ (p : Page). with_links p left) e

-- behind the last pair stands one byte at the most
pub links_end : (now : Page) (left : List ℕ) → length left < 2 → with_links now left ≡ now
unfolding with_links
links_end now [] h = refl
links_end now (a ∷ []) h = refl
links_end now (a ∷ b ∷ left) h = absurd (omega arith)

-- ---- in a buffer with room

-- the number of a node, and N, have few digits
node-digits : (n : ℕ) → n ≤ max_nodes → length (decimal_of n) ≤ node_digits
node-digits n h = decimal-short n 1 (omega arith)

one-short : (b : ℕ) → b ≤ max_nodes → Short node_digits (b ∷ [])
one-short b h zero l = node-digits b h
one-short b h (suc i) l = absurd (omega arith)

none-short : Short node_digits []
none-short i l = absurd (omega arith)

-- the lines of links: a number and a byte for each byte of the pairs
within-links : (pairs : List ℕ) {before s : List ℕ} {p : Page} {k : ℕ} → ((i : ℕ) → get_or pairs i 0 ≤ max_nodes) → Within before p s k
    → k + suc node_digits * length pairs ≤ length before → Within before (with_links p pairs) (s ++ link_lines pairs) (k + suc node_digits * length pairs)
unfolding with_links link_lines
within-links [] {s = s} {k = k} low w l = within_as (k + suc node_digits * 0) w (sym (append-nil s)) (omega arith)
within-links (a ∷ []) {s = s} {k = k} low w l = within_as (k + suc node_digits * 1) w (sym (append-nil s)) (omega arith)
within-links (a ∷ b ∷ pairs) {s = s} {k = k} low w l =
    let line = within-line node_digits (decimal_of a) (b ∷ []) node_digits (node-digits a (low 0)) (one-short b (low 1)) w refl (omega arith) in
    let all = within-links pairs (λ i. low (suc (suc i))) line (omega arith) in
    within_as (k + suc node_digits * length (a ∷ b ∷ pairs)) all (append_assoc s (numbers_line (a ∷ b ∷ [])) (link_lines pairs)) (omega arith)

module _ {c : Cabling} (g : Good c) where
  within-sheet : {before : List ℕ} {q : Page} → longest_sheet ≤ length before → q ≡ with_sheet (page before 0) c → Within before q (sheet_of c) longest_sheet
  unfolding sheet_of
  within-sheet {before} {q} room e =
      let few = g.few in
      let short = g.short in
      let line = within-line node_digits (decimal_of c.nodes) [] node_digits (node-digits c.nodes few) none-short (within_none before) refl (omega arith) in
      let all = within-links c.pairs (λ i. let l = good-low g i in omega arith) line (omega arith) in
      rw e (within_as longest_sheet all refl (omega arith))

  pub sheet-lays : {before : List ℕ} {q : Page} → longest_sheet ≤ length before → q ≡ with_sheet (page before 0) c → Lays before q (sheet_of c)
  sheet-lays room e = (within-sheet room e).lays

  -- RULES 6.5: "A sheet has at most 3,075 bytes."
  pub sheet-size : length (sheet_of c) ≤ longest_sheet
  sheet-size = (within-sheet {before = replicate longest_sheet 0} (let e = length-replicate {A = ℕ} longest_sheet 0 in omega arith) refl).bound

pub longest-sheet : longest_sheet ≡ 3075
longest-sheet = refl
