-- What each verdict says of a cabling: the table of RULES 9.1, row by row, in the order of RULES 9.2.
use Rattle.std.specs.Prelude.{◌≡◌, List, ◌⊎◌, ℕ, ◌*◌, ◌-◌, ◌/◌, ◌%◌, ◌≤◌, ◌<◌, length, Err, Ok}
use Rattle.graph.specs.Network.{Walk}
use Rattle.nodes.specs.Limits.{max_nodes, max_links, max_degree}
use Rattle.refusal.specs.Verdicts.{Verdict}
use Rattle.refusal.specs.declared.Refusal.TheVariants.{Count, Shape, Ends, Order, Crowded, Apart}
use Rattle.cabling.specs.Cabling.{Cabling, links, links_at, low_end, high_end, EndsFine, Above, Good}

abbrev pub Counted : ℕ → Type 0
Counted n = (2 ≤ n) × (n ≤ max_nodes)

abbrev pub Shaped : List ℕ → Type 0
Shaped pairs = (length pairs % 2 ≡ 0) × (length pairs ≤ 2 * max_links)

-- the two ways that a pair is bad, and that it is neither
abbrev pub EndsBad : Cabling → ℕ → Type 0
EndsBad c p = (high_end c.pairs p ≤ low_end c.pairs p) ⊎ (c.nodes ≤ high_end c.pairs p)

abbrev pub OrderBad : List ℕ → ℕ → Type 0
OrderBad pairs p = (p ≡ 0 → ⊥) × (Above pairs (p - 1) p → ⊥)

abbrev pub PairFine : Cabling → ℕ → Type 0
PairFine c p = EndsFine c p × ((p ≡ 0) ⊎ Above c.pairs (p - 1) p)

-- neither 2 nor 3 is given, and the first k pairs are fine
pub record Passed (c : Cabling) (k : ℕ) : Type 0 where
  pub counted : Counted c.nodes
  pub shaped : Shaped c.pairs
  pub fine : (q : ℕ) → q < k → PairFine c q

-- and so are all the pairs
abbrev pub PairsFine : Cabling → Type 0
PairsFine c = Passed c (length c.pairs / 2)

-- no other refusal is of a cabling
pub data Means (c : Cabling) : Verdict → Type 0 where
  means_fine : Good c → Means c (Ok tt)
  -- RULES 9.1: "N not 2 to 64"
  means_count : (c.nodes < 2) ⊎ (max_nodes < c.nodes) → Means c (Err Count)
  -- RULES 9.1: "pairs of odd length or over 1,024 bytes"
  means_shape : Counted c.nodes → (length c.pairs % 2 ≡ 0 → ⊥) ⊎ (2 * max_links < length c.pairs) → Means c (Err Shape)
  -- RULES 9.2: "the first bad pair, 4 before 5"; RULES 9.1: "a pair with a ≥ b or b ≥ N", "a pair that is not above the one before"
  means_ends : {p : ℕ} → p < length c.pairs / 2 → Passed c p → EndsBad c p → Means c (Err (Ends p))
  means_order : {p : ℕ} → p < length c.pairs / 2 → Passed c p → EndsFine c p → OrderBad c.pairs p → Means c (Err (Order p))
  -- RULES 9.1: "more than 16 links at a node", "the lowest such node"
  means_crowded : {v : ℕ} → PairsFine c → v < c.nodes → max_degree < links_at c v → ((u : ℕ) → u < v → links_at c u ≤ max_degree)
      → Means c (Err (Crowded v))
  -- RULES 9.1: "the network is not connected", "the lowest node not reached from 0"
  means_apart : {v : ℕ} → PairsFine c → ((u : ℕ) → u < c.nodes → links_at c u ≤ max_degree) → v < c.nodes
      → (Walk (links c) 0 v → ⊥) → ((u : ℕ) → u < v → Walk (links c) 0 u) → Means c (Err (Apart v))
