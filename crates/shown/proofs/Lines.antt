-- The lines of the nodes, one behind the other, and how long each may be.
use mathlib.Core.Path.{◌≡◌, sym, ◌∙◌, ap, ap₂}
use mathlib.Core.Bool.{true, false}
use mathlib.Core.List.{List, ◌∷◌, ◌++◌, append_assoc, append-nil}
use Prim.Native.Nat.{ℕ, zero, suc, ◌+◌, ◌*◌, ◌≤◌, ◌<◌}
use native.Mathlib.Nat.{le_refl}
use native.Mathlib.Numerals.{add-one}
use native.Mathlib.Omega.{arith}
use lib.Dec.{lit≤}
use lib.ListN.{length}
use Rattle.finite.specs.Truth.{same, below}
use Rattle.finite.proofs.Truth.{bcase, below-lt}
use Rattle.finite.proofs.Lists.{tabulate-length, tabulate-at}
use Rattle.cabling.specs.Cabling.{Cabling, Good}
use Rattle.lawful.specs.Entry.{none, entry}
use Rattle.fabric.specs.Fabric.{label_for}
use Rattle.fabric.proofs.Labels.{good-label-le}
use Rattle.laid.specs.Laid.{Page, page}
use Rattle.laid.specs.Lays.{Lays}
use Rattle.laid.proofs.Pieces.{Within, within_none, within_as}
use Rattle.text.specs.Text.{decimal_of}
use Rattle.text.proofs.Decimal.{decimal-bound, decimal-short}
use Rattle.lines.specs.Lines.{with_line}
use Rattle.lines.proofs.Whole.{Short, within-line}
use Rattle.shown.specs.Shows.{fabric_word, fabric_fields, fabric_line, free_entry, free_row, node_line, node_lines, longest_fabric_line, longest_node_line, longest_show, report_of}

-- the fabric's line alone, in a buffer with room for all
pub record Begun (c : Cabling) (before : List ℕ) (first : Page) : Type 0 where
  pub line : first ≡ with_line (page before 0) fabric_word (fabric_fields c)
  pub room : longest_show ≤ length before

-- what is laid once the lines of the first v nodes stand behind it
pub record Printed (c : Cabling) (first p : Page) (v : ℕ) : Type 0 where
  pub good : Good c
  pub low : v ≤ c.nodes
  pub within : (before : List ℕ) → Begun c before first → Within before p (fabric_line c ++ node_lines c v) (longest_fabric_line + v * longest_node_line)

-- ---- a label and an entry have at most three digits

three : (x : ℕ) → x ≤ 255 → length (decimal_of x) ≤ 3
three x l = decimal-short x 2 (omega arith)

-- a node, or the byte that stands for none
node_or_none : (n u : ℕ) → n ≤ 255 → elim (below u n) [ true ↦ u | false ↦ none ] ≤ 255
node_or_none n u few = bcase (below u n) (λ t. rw t (let l = below-lt _ _ t in omega arith)) (λ t. rw t (lit≤ tt))

module _ {c : Cabling} (good : Good c) (v : ℕ) where
  label-short : label_for c v ≤ 255
  label-short = let most = good.few in let l = good-label-le good v in omega arith

  entry-short : (t : ℕ) → v < c.nodes → free_entry c v t ≤ 255
  unfolding entry
  entry-short t l =
      let most = good.few in
      bcase (same v t) (λ q. rw (q, entry) (omega arith)) (λ q. rw (q, entry) (node_or_none _ _ (omega arith)))

  numbers-short : v < c.nodes → Short 3 (label_for c v ∷ free_row c v)
  numbers-short l zero k = three _ label-short
  numbers-short l (suc t) k =
      let e = tabulate-length c.nodes (free_entry c v) in
      rw (tabulate-at c.nodes (free_entry c v) t 0 (omega arith)) (three _ (entry-short t l))

-- ---- line by line

pub printed_begin : {c : Cabling} (first : Page) → Good c → Printed c first first 0
unfolding node_lines
printed_begin {c} first good = record {
  good = good;
  low = omega arith;
  within = λ before s.
      let room = s.room in
      let w = within-line 21 fabric_word (fabric_fields c) 6 (le_refl 6) (λ i l. decimal-bound _) (within_none before) s.line (omega arith) in
      within_as longest_fabric_line w (sym (append-nil _)) (lit≤ tt);
}

pub printed_next : {c : Cabling} {first p q : Page} {v label : ℕ} {row : List ℕ} → Printed c first p v → v < c.nodes
    → label ≡ label_for c v → row ≡ free_row c v → q ≡ with_line p (decimal_of v) (label ∷ row) → Printed c first q (v + 1)
unfolding node_lines
printed_next {c} {first} {p} {v = v} t l a b e =
    let most = t.good.few in
    let size = tabulate-length c.nodes (free_entry c v) in
    let line = e ∙ ap₂ (λ (x : ℕ) (y : List ℕ). with_line p (decimal_of v) (x ∷ y)) a b in
    record {
      good = t.good;
      low = omega arith;
      within = λ before s.
          let room = s.room in
          let w = within-line 3 (decimal_of v) _ 2 (decimal-short v 1 (omega arith)) (numbers-short t.good v l) (t.within before s) line (omega arith) in
          rw add-one (within_as (longest_fabric_line + suc v * longest_node_line) w (append_assoc (fabric_line c) (node_lines c v) (node_line c v)) (omega arith));
    }

pub printed_end : {c : Cabling} {before : List ℕ} {first p : Page} {v : ℕ} → Begun c before first → Printed c first p v → c.nodes ≤ v → Lays before p (report_of c)
unfolding report_of
printed_end {c} {before} {v = v} s t l =
    let low = t.low in
    let e : v ≡ c.nodes = omega arith in
    (within_as (longest_fabric_line + v * longest_node_line) (t.within before s) (ap (λ (k : ℕ). fabric_line c ++ node_lines c k) e) (le_refl _)).lays
