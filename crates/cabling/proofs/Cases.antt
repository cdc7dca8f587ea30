-- The verdict case by case: which tests, in plain terms, lead to which fault.
use Rattle.std.specs.Prelude.{Some, None, Ok, Err}
use mathlib.Core.Path.{◌≡◌, ap}
use mathlib.Core.Bool.{Bool, false}
use mathlib.Core.Logic.{◌⊎◌, inl, inr}
use Prim.Native.Nat.{ℕ, ◌*◌, ◌/◌, ◌%◌, ◌≤◌, ◌<◌}
use native.Mathlib.Omega.{arith}
use lib.ListN.{length}
use Rattle.finite.specs.Truth.{below}
use Rattle.finite.specs.Search.{least}
use Rattle.finite.specs.Lowest.{lowest}
use Rattle.finite.proofs.Truth.{lt-below, le_below}
use Rattle.finite.proofs.Decide.{by, pass, fail, least-is, decide-least}
use Rattle.finite.proofs.Lowest.{found-lowest, none-lowest}
use Rattle.nodes.specs.Limits.{max_nodes, max_links}
use Rattle.refusal.specs.declared.Refusal.{Refusal}
use Rattle.refusal.specs.declared.Refusal.TheVariants.{Count, Shape, Ends, Order, Crowded, Apart}
use Rattle.refusal.proofs.Verdicts.{fine-fault}
use Rattle.cabling.specs.Cabling.{Cabling, links, EndsFine}
use Rattle.cabling.specs.Faults.{bad_pair, pair_fault, crowded, unreached, node_fault, link_fault, fault_of}
use Rattle.cabling.specs.Verdicts.{Counted, Shaped, EndsBad, OrderBad, PairFine}
use Rattle.cabling.proofs.Tests.{decide_counted, decide_shaped, decide_ends, decide_order, decide_pair}

-- ---- a pair

module _ (c : Cabling) (p : ℕ) where
  pub pair_ends : EndsBad c p → pair_fault c p ≡ Err (Ends p)
  unfolding pair_fault
  pair_ends e = rw (pass (decide_ends c p) e, pair_fault)

  pub pair_order : EndsFine c p → OrderBad c.pairs p → pair_fault c p ≡ Err (Order p)
  unfolding pair_fault
  pair_order e o = rw (fail (decide_ends c p) e, pass (decide_order c.pairs p) o, pair_fault)

  pub pair-fine : PairFine c p → pair_fault c p ≡ Ok tt
  unfolding pair_fault
  pair-fine e = rw (fail (decide_ends c p) e.0, fail (decide_order c.pairs p) e.1, pair_fault)

  -- and back
  pub fault-pair : {r : Refusal} → pair_fault c p ≡ Err r → EndsBad c p ⊎ OrderBad c.pairs p
  fault-pair h = by (decide_ends c p) inl (λ e. by (decide_order c.pairs p) inr (λ o. fine-fault (pair-fine (e, o)) h))

  pub fine-pair : pair_fault c p ≡ Ok tt → PairFine c p
  fine-pair h =
      by (decide_ends c p) (λ e. fine-fault h (pair_ends e))
      (λ e. by (decide_order c.pairs p) (λ o. fine-fault h (pair_order e o)) (λ o. (e, o)))

-- ---- the first bad pair, and none

module _ (c : Cabling) (k : ℕ) (before : (q : ℕ) → q < k → PairFine c q) where
  pub link_bad : k < length c.pairs / 2 → EndsBad c k ⊎ OrderBad c.pairs k → link_fault c ≡ pair_fault c k
  unfolding link_fault
  link_bad l b =
      let e = least-is (length c.pairs / 2) (decide_pair c) k l b before in
      rw (lt-below {a = least (length c.pairs / 2) (bad_pair c)} {b = length c.pairs / 2} (omega arith), link_fault) (ap (pair_fault c) e)

  pub link-fine : length c.pairs / 2 ≤ k → link_fault c ≡ node_fault c.nodes (links c) c.nodes
  unfolding link_fault
  link-fine l = rw (fail (decide-least (length c.pairs / 2) (decide_pair c)) (λ q h. before q (omega arith)), link_fault)

-- ---- the lowest crowded node, the lowest that is not reached, and neither

module _ (w : ℕ) (edge : ℕ → ℕ → Bool) (n : ℕ) where
  pub node-crowded : {v : ℕ} → lowest n (crowded w edge) ≡ Some v → node_fault w edge n ≡ Err (Crowded v)
  unfolding node_fault
  node-crowded h =
      let (e, l) = found-lowest _ _ h in
      rw (lt-below {a = least n (crowded w edge)} {b = n} (omega arith), node_fault) (ap (λ (x : ℕ). Err (Crowded x)) e)

  module _ (sparse : lowest n (crowded w edge) ≡ None) where
    not-crowded : below (least n (crowded w edge)) n ≡ false
    not-crowded = le_below (none-lowest _ _ sparse)

    pub node_apart : {v : ℕ} → lowest n (unreached w edge) ≡ Some v → node_fault w edge n ≡ Err (Apart v)
    unfolding node_fault
    node_apart h =
        let (e, l) = found-lowest _ _ h in
        rw (not-crowded, lt-below {a = least n (unreached w edge)} {b = n} (omega arith), node_fault) (ap (λ (x : ℕ). Err (Apart x)) e)

    pub node-fine : lowest n (unreached w edge) ≡ None → node_fault w edge n ≡ Ok tt
    unfolding node_fault
    node-fine h = rw (not-crowded, le_below {a = least n (unreached w edge)} {b = n} (none-lowest _ _ h), node_fault)

-- ---- the whole

module _ (c : Cabling) where
  pub whole-count : (c.nodes < 2) ⊎ (max_nodes < c.nodes) → fault_of c ≡ Err Count
  unfolding fault_of
  whole-count h = rw (fail (decide_counted c.nodes) h, fault_of)

  pub whole_shape : Counted c.nodes → (length c.pairs % 2 ≡ 0 → ⊥) ⊎ (2 * max_links < length c.pairs) → fault_of c ≡ Err Shape
  unfolding fault_of
  whole_shape h s = rw (pass (decide_counted c.nodes) h, fail (decide_shaped c.pairs) s, fault_of)

  pub whole-links : Counted c.nodes → Shaped c.pairs → fault_of c ≡ link_fault c
  unfolding fault_of
  whole-links h s = rw (pass (decide_counted c.nodes) h, pass (decide_shaped c.pairs) s, fault_of)
