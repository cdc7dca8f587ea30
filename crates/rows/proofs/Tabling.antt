-- The tables column by column: the first d columns hold the entries for the destinations below d.
use mathlib.Core.Path.{◌≡◌, refl}
use mathlib.Core.Bool.{Bool, true, false}
use mathlib.Core.List.{List}
use Prim.Native.Nat.{ℕ, ◌+◌, ◌≤◌, ◌<◌}
use lib.ListN.{replicate}
use Rattle.nodes.specs.Limits.{max_nodes}
use Rattle.lawful.specs.Entry.{entry}
use Rattle.rows.specs.Tables.{table_size, rows_of, tables_of}
use Rattle.rows.specs.Steps.{rounds, ways_of, search_at, Turned, OfWays, placed_of}
use Rattle.rows.specs.declared.Ways.{Ways}
use Rattle.rows.specs.declared.Search.{Search}
use Rattle.rows.proofs.Rounds.{free-at, falling-at}
use Rattle.rows.proofs.Grid.{Columns, columns_none, columns_more, columns_all}

module _ (edge : ℕ → ℕ → Bool) (label : ℕ → ℕ) where
  abbrev entries : Bool → ℕ → ℕ → ℕ
  entries class v t = entry max_nodes edge label t class v

  pub record Tabling (m : ℕ) (ways : Ways) (free falling : List ℕ) (d : ℕ) : Type 0 where
    pub few : m ≤ max_nodes
    pub of : ways ≡ ways_of edge label
    pub frees : Columns m (entries true) free d
    pub falls : Columns m (entries false) falling d

  pub tabling_none : {m : ℕ} {ways : Ways} → m ≤ max_nodes → ways ≡ ways_of edge label → Tabling m ways (replicate table_size 0) (replicate table_size 0) 0
  tabling_none {m} l e = record { few = l; of = e; frees = columns_none m (entries true); falls = columns_none m (entries false) }

  -- what is turned round in them
  pub turned : {ways : Ways} → ways ≡ ways_of edge label → Turned ways
  unfolding ways_of
  turned e = rw e (record { over = refl; under = refl })

  pub tabling_more : {m d : ℕ} {ways : Ways} {free falling free' falling' : List ℕ} {s : Search} → d < max_nodes → Tabling m ways free falling d
      → OfWays ways (λ edge label. s ≡ search_at edge label d rounds) → free' ≡ placed_of m d s.free.entries free
      → falling' ≡ placed_of m d s.falling.entries falling → Tabling m ways free' falling' (d + 1)
  tabling_more {m} {d} low h column p q =
      let e = column edge label h.of in
      record {
        few = h.few;
        of = h.of;
        frees = columns_more m (entries true) h.frees h.few (free-at edge label d low e) p;
        falls = columns_more m (entries false) h.falls h.few (falling-at edge label d low e) q;
      }

  pub tabling_all : {m n d : ℕ} {ways : Ways} {free falling : List ℕ} → Tabling m ways free falling d → d ≡ m → m ≡ n
      → record { free = free; falling = falling } ≡ tables_of max_nodes n edge label
  unfolding tables_of rows_of
  tabling_all {m} h e p = rw (← p) (λ i. record {
    free = columns_all m (entries true) h.frees h.few e i;
    falling = columns_all m (entries false) h.falls h.few e i;
  })
