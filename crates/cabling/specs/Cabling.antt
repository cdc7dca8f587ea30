-- RULES 6.4: "A cabling is N and the list of the pairs, each of them and their order as in kind 1." What a good one is, in words.
use Rattle.std.specs.Prelude.{◌≡◌, Bool, List, ◌⊎◌, ℕ, ◌+◌, ◌*◌, ◌/◌, ◌%◌, ◌≤◌, ◌<◌, length, get_or}
use Rattle.finite.specs.Truth.{below}
use Rattle.finite.specs.Sum.{count}
use Rattle.graph.specs.Network.{Connected}
use Rattle.nodes.specs.Limits.{max_nodes, max_links, max_degree}
use Rattle.network.specs.Table.{linked}

pub record Cabling : Type 0 where
  pub nodes : ℕ
  pub pairs : List ℕ

abbrev pub cabled : ℕ → List ℕ → Cabling
cabled n pairs = record { nodes = n; pairs = pairs }

-- its links, and how many of them node v has
abbrev pub links : Cabling → ℕ → ℕ → Bool
links c = linked c.pairs

abbrev pub links_at : Cabling → ℕ → ℕ
links_at c v = count c.nodes (links c v)

-- the two ends of pair p
abbrev pub low_end : List ℕ → ℕ → ℕ
low_end pairs p = get_or pairs (2 * p) 0

abbrev pub high_end : List ℕ → ℕ → ℕ
high_end pairs p = get_or pairs (2 * p + 1) 0

-- RULES 6.2: "pairs of bytes (a, b) with a < b", both nodes
abbrev pub EndsFine : Cabling → ℕ → Type 0
EndsFine c p = (low_end c.pairs p < high_end c.pairs p) × (high_end c.pairs p < c.nodes)

-- pair q is above pair p, RULES 6.2: "in strictly rising order, by a and then by b"
abbrev pub Above : List ℕ → ℕ → ℕ → Type 0
Above pairs p q =
    (low_end pairs p < low_end pairs q) ⊎ ((low_end pairs p ≡ low_end pairs q) × (high_end pairs p < high_end pairs q))

pub record Good (c : Cabling) : Type 0 where
  -- RULES 3.1: "2 to 64 nodes"
  pub many : 2 ≤ c.nodes
  pub few : c.nodes ≤ max_nodes
  -- RULES 3.1: "at most 512 links", two bytes each
  pub even : length c.pairs % 2 ≡ 0
  pub short : length c.pairs ≤ 2 * max_links
  pub ends : (p : ℕ) → p < length c.pairs / 2 → EndsFine c p
  pub rising : (p : ℕ) → p + 1 < length c.pairs / 2 → Above c.pairs p (p + 1)
  -- RULES 3.1: "a node has at most 16 links"
  pub sparse : (v : ℕ) → v < c.nodes → links_at c v ≤ max_degree
  pub connected : Connected (links c) (λ v. below v c.nodes)
