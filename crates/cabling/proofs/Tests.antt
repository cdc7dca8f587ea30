-- Each test of the checks decides between two plain facts.
use mathlib.Core.Path.{◌≡◌}
use mathlib.Core.Bool.{Bool}
use mathlib.Core.List.{List}
use mathlib.Core.Logic.{◌⊎◌}
use Prim.Native.Nat.{ℕ, ◌*◌, ◌-◌, ◌%◌, ◌≤◌, ◌<◌}
use lib.ListN.{length}
use Rattle.finite.specs.Truth.{same}
use Rattle.finite.specs.Sum.{count}
use Rattle.finite.specs.Sets.{has}
use Rattle.finite.proofs.Truth.{no_tf, same-eq, same_refl}
use Rattle.finite.proofs.Decide.{Decides, decide_below, decide_leb, decide_same, decide_eqb, decide_non, decide_not, decide_and, decide_or}
use Rattle.graph.specs.Network.{Network, Walk}
use Rattle.graph.specs.Reach.{reach}
use Rattle.graph.proofs.Reach.{reach-from, reach-walk}
use Rattle.nodes.specs.Limits.{max_nodes, max_links, max_degree}
use Rattle.cabling.specs.Cabling.{Cabling, EndsFine, Above}
use Rattle.cabling.specs.Faults.{is_counted, is_shaped, bad_ends, is_above, not_above, bad_pair, crowded, unreached}
use Rattle.cabling.specs.Verdicts.{Counted, Shaped, EndsBad, OrderBad, PairFine}

pub decide_counted : (n : ℕ) → Decides (is_counted n) (Counted n) ((n < 2) ⊎ (max_nodes < n))
unfolding is_counted
decide_counted n = decide_and (decide_leb 2 n) (decide_leb n max_nodes)

pub decide_shaped : (pairs : List ℕ) → Decides (is_shaped pairs) (Shaped pairs) ((length pairs % 2 ≡ 0 → ⊥) ⊎ (2 * max_links < length pairs))
unfolding is_shaped
decide_shaped pairs = decide_and (decide_eqb _ _) (decide_leb _ _)

pub decide_above : (pairs : List ℕ) (p q : ℕ) → Decides (is_above pairs p q) (Above pairs p q) (Above pairs p q → ⊥)
unfolding is_above
decide_above pairs p q = decide_not (decide_or (decide_below _ _) (decide_and (decide_same _ _) (decide_below _ _)))

pub decide_order : (pairs : List ℕ) (p : ℕ) → Decides (not_above pairs p) (OrderBad pairs p) ((p ≡ 0) ⊎ Above pairs (p - 1) p)
unfolding not_above
decide_order pairs p = decide_and (decide_non (decide_same p 0)) (decide_non (decide_above pairs (p - 1) p))

module _ (c : Cabling) (p : ℕ) where
  pub decide_ends : Decides (bad_ends c p) (EndsBad c p) (EndsFine c p)
  unfolding bad_ends
  decide_ends = decide_or (decide_non (decide_below _ _)) (decide_non (decide_below _ _))

  pub decide_pair : Decides (bad_pair c p) (EndsBad c p ⊎ OrderBad c.pairs p) (PairFine c p)
  unfolding bad_pair
  decide_pair = decide_or decide_ends (decide_order c.pairs p)

pub decide_crowded : (w : ℕ) (edge : ℕ → ℕ → Bool) (v : ℕ) → Decides (crowded w edge v) (max_degree < count w (edge v)) (count w (edge v) ≤ max_degree)
unfolding crowded
decide_crowded w edge v = decide_below _ _

-- the flood from node 0 reaches just the nodes that walks lead to
module _ (w : ℕ) (edge : ℕ → ℕ → Bool) (net : Network w edge) (some : 0 < w) (v : ℕ) where
  decide_reached : Decides (has (reach w edge (same 0)) v) (Walk edge 0 v) (Walk edge 0 v → ⊥)
  decide_reached = record {
    yes = λ t. let f = reach-from w edge (same 0) v t in rw (same-eq _ _ f.fact) f.walk;
    no = λ t k. no_tf (reach-walk w edge net.inside (same 0) some (same_refl 0) k) t;
    never = λ k n. n k;
  }

  pub decide_unreached : Decides (unreached w edge v) (Walk edge 0 v → ⊥) (Walk edge 0 v)
  unfolding unreached
  decide_unreached = decide_non decide_reached
