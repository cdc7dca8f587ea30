-- The rows of every good cabling, by RULES 5: an entry begins a shortest way, lowest number first, and is 255 exactly where there is none; and no other table
-- is like that.
use mathlib.Core.Path.{◌≡◌, refl, sym, ◌∙◌, ap}
use mathlib.Core.Bool.{Bool, true, false}
use mathlib.Core.List.{List}
use mathlib.Core.Logic.{◌↔◌, ◌⊎◌, ⊎_elim}
use Prim.Native.Nat.{ℕ, ◌+◌, ◌*◌, ◌/◌, ◌%◌, ◌<◌}
use native.Mathlib.Omega.{arith}
use lib.ListN.{get_or}
use lib.Seq.{ext_get_or}
use Rattle.finite.specs.Truth.{same}
use Rattle.finite.proofs.Truth.{bcase, same-eq, same-ne}
use Rattle.finite.proofs.Grid.{cell-is, cell-low}
use Rattle.graph.specs.Network.{Network}
use Rattle.lawful.specs.Turn.{Distinct}
use Rattle.lawful.specs.Entry.{none, entry}
use Rattle.lawful.proofs.Paths.{WayTo}
use Rattle.lawful.proofs.Climb.{climbing-way}
use Rattle.lawful.proofs.Entries.{begins_unique, entry-self, entry-begins, entry-none-iff}
use Rattle.lawful.proofs.Routes.{way_or_none}
use Rattle.rows.proofs.Meaning.{rows-length, rows_at}
use Rattle.cabling.specs.Cabling.{Cabling, Good, links}
use Rattle.cabling.proofs.Joined.{good-network}
use Rattle.fabric.specs.Fabric.{label_for, rows_for}
use Rattle.fabric.specs.Rows.{RowsBy, FreeRows, FallingRows}
use Rattle.fabric.proofs.Labels.{good-climbing}

-- two tables of the same words are equal
pub rows-by_unique : (n : ℕ) (P : ℕ → ℕ → List ℕ → Type 0) {a b : List ℕ}
    → ((v t : ℕ) → v < n → t < n → (v ≡ t → ⊥) → ((l : List ℕ) × P v t l) ⊎ ((l : List ℕ) → P v t l → ⊥)) → RowsBy n P a → RowsBy n P b → a ≡ b
rows-by_unique n P {a} {b} decide x y =
    ext_get_or 0 a b (x.size ∙ sym y.size) (λ i l.
    let size = x.size in
    let (v, t) = cell-low n i (omega arith) in
    let at = cell-is n i (i / n) (i % n) refl refl in
    ap (λ (j : ℕ). get_or a j 0) at ∙ cell (i / n) (i % n) v t ∙ ap (λ (j : ℕ). get_or b j 0) (sym at))
  where
    cell : (v t : ℕ) → v < n → t < n → get_or a (v * n + t) 0 ≡ get_or b (v * n + t) 0
    cell v t k l =
        bcase (same v t) (λ e. rw (← same-eq v t e) (x.self v k ∙ sym (y.self v k)))
        (λ e.
        let d = same-ne v t e in
        ⊎_elim (λ w. begins_unique (x.begins v t k l d w.0 w.1) (y.begins v t k l d w.0 w.1))
        (λ no. x.missing v t k l no ∙ sym (y.missing v t k l no)) (decide v t k l d))

module _ {c : Cabling} (g : Good c) where
  abbrev n : ℕ
  n = c.nodes

  abbrev Way : Bool → ℕ → ℕ → List ℕ → Type 0
  Way class = WayTo (links c) (label_for c) class

  net : Network n (links c)
  net = good-network g

  distinct : Distinct (links c) (label_for c)
  distinct = (good-climbing g).distinct

  -- byte v * N + t is the entry
  pub good-row-at : (class : Bool) (v t : ℕ) → v < n → t < n → get_or (rows_for c class) (v * n + t) 0 ≡ entry n (links c) (label_for c) t class v
  good-row-at class = rows_at n n (links c) (label_for c) class

  rows-by : (class : Bool) → RowsBy n (Way class) (rows_for c class)
  rows-by class = record {
    size = rows-length n n (links c) (label_for c) class;
    self = λ v k. good-row-at class v v k k ∙ entry-self n (links c) (label_for c) v class;
    begins = λ v t k l d path w. rw (good-row-at class v t k l) (entry-begins n (links c) (label_for c) net distinct class v t path l d w).0;
    missing = λ v t k l no. good-row-at class v t k l ∙ (none-iff class v t k l).1 no;
    found = λ v t k l path w.
        rw (good-row-at class v t k l)
        (bcase (same v t) (λ e. rw (same-eq v t e, entry-self n (links c) (label_for c) t class) l)
        (λ e. (entry-begins n (links c) (label_for c) net distinct class v t path l (same-ne v t e) w).1));
  }
    where
      none-iff : (class : Bool) (v t : ℕ) → v < n → t < n → (entry n (links c) (label_for c) t class v ≡ none) ↔ ((l : List ℕ) → Way class v t l → ⊥)
      none-iff class v t k l = let few = g.few in entry-none-iff n (links c) (label_for c) net distinct (omega arith) class v t k l

  rows_unique : (class : Bool) {table : List ℕ} → RowsBy n (Way class) table → table ≡ rows_for c class
  rows_unique class x =
      rows-by_unique n (Way class) (λ v t k l d. way_or_none n (links c) (label_for c) net distinct class v t k l) x (rows-by class)

  -- kind 3 and kind 4 are what RULES 6.2 says, and nothing else is
  pub good-free-rows : FreeRows c (rows_for c true)
  good-free-rows = rows-by true

  pub good-falling-rows : FallingRows c (rows_for c false)
  good-falling-rows = rows-by false

  pub free-rows_unique : {table : List ℕ} → FreeRows c table → table ≡ rows_for c true
  free-rows_unique = rows_unique true

  pub falling-rows_unique : {table : List ℕ} → FallingRows c table → table ≡ rows_for c false
  falling-rows_unique = rows_unique false

  -- a free entry is always a node: each pair has a lawful path
  pub good-free-found : (v t : ℕ) → v < n → t < n → get_or (rows_for c true) (v * n + t) 0 < n
  good-free-found v t k l =
      let w = climbing-way n (links c) (label_for c) (good-climbing g) net.undirected v t k l in
      good-free-rows.found v t k l w.0 w.1
