-- The checks of a cabling in the order of RULES 9.2: 2, 3, then the first bad pair, 4 before 5, then 6, 7. The first fault is the verdict.
use Rattle.std.specs.Prelude.{Bool, true, false, List, ℕ, ◌*◌, ◌-◌, ◌/◌, ◌%◌, leb, eqb, length, Err, Ok}
use Rattle.finite.specs.Truth.{◌&◌, ◌or◌, non, same, below}
use Rattle.finite.specs.Sum.{count}
use Rattle.finite.specs.Search.{least}
use Rattle.finite.specs.Sets.{has}
use Rattle.graph.specs.Reach.{reach}
use Rattle.nodes.specs.Limits.{max_nodes, max_links, max_degree}
use Rattle.refusal.specs.Verdicts.{Verdict}
use Rattle.refusal.specs.declared.Refusal.TheVariants.{Count, Shape, Ends, Order, Crowded, Apart}
use Rattle.cabling.specs.Cabling.{Cabling, links, low_end, high_end}

-- 2, RULES 9.1: "N not 2 to 64"
unfoldable pub is_counted : ℕ → Bool
is_counted n = leb 2 n & leb n max_nodes

-- 3, RULES 9.1: "pairs of odd length or over 1,024 bytes"
unfoldable pub is_shaped : List ℕ → Bool
is_shaped pairs = eqb (length pairs % 2) 0 & leb (length pairs) (2 * max_links)

-- 4, RULES 9.1: "a pair with a ≥ b or b ≥ N"
unfoldable pub bad_ends : Cabling → ℕ → Bool
bad_ends c p = non (below (low_end c.pairs p) (high_end c.pairs p)) or non (below (high_end c.pairs p) c.nodes)

-- pair q is above pair p
unfoldable pub is_above : List ℕ → ℕ → ℕ → Bool
is_above pairs p q =
    below (low_end pairs p) (low_end pairs q) or same (low_end pairs p) (low_end pairs q) & below (high_end pairs p) (high_end pairs q)

-- 5, RULES 9.1: "a pair that is not above the one before"
unfoldable pub not_above : List ℕ → ℕ → Bool
not_above pairs p = non (same p 0) & non (is_above pairs (p - 1) p)

unfoldable pub bad_pair : Cabling → ℕ → Bool
bad_pair c p = bad_ends c p or not_above c.pairs p

-- the fault of a pair, 4 before 5
unfoldable pub pair_fault : Cabling → ℕ → Verdict
pair_fault c p =
    elim (bad_ends c p) [
      | true ↦ Err (Ends p)
      | false ↦ elim (not_above c.pairs p) [ true ↦ Err (Order p) | false ↦ Ok tt ]
    ]

-- 6, RULES 9.1: "more than 16 links at a node", counted at the width w
unfoldable pub crowded : ℕ → (ℕ → ℕ → Bool) → ℕ → Bool
crowded w edge v = below max_degree (count w (edge v))

-- 7, RULES 9.1: "not reached from 0", at the width w
unfoldable pub unreached : ℕ → (ℕ → ℕ → Bool) → ℕ → Bool
unreached w edge v = non (has (reach w edge (same 0)) v)

-- the lowest crowded one of the first n nodes; else the lowest not reached
unfoldable pub node_fault : ℕ → (ℕ → ℕ → Bool) → ℕ → Verdict
node_fault w edge n =
    let c : ℕ = least n (crowded w edge) in
    elim (below c n) [
      | true ↦ Err (Crowded c)
      | false ↦ let u : ℕ = least n (unreached w edge) in elim (below u n) [ true ↦ Err (Apart u) | false ↦ Ok tt ]
    ]

-- the first bad pair; else what is wrong at a node
unfoldable pub link_fault : Cabling → Verdict
link_fault c =
    let p : ℕ = least (length c.pairs / 2) (bad_pair c) in
    elim (below p (length c.pairs / 2)) [ true ↦ pair_fault c p | false ↦ node_fault c.nodes (links c) c.nodes ]

unfoldable pub fault_of : Cabling → Verdict
fault_of c =
    elim (is_counted c.nodes) [
      | false ↦ Err Count
      | true ↦ elim (is_shaped c.pairs) [ false ↦ Err Shape | true ↦ link_fault c ]
    ]
