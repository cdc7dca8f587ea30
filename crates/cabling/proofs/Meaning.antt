-- The verdict means what RULES 9.1 says: for each verdict, `fault_of` answers it exactly where its row of specs/Verdicts.antt holds.
use Rattle.std.specs.Prelude.{Err, Ok}
use Rattle.refusal.specs.Verdicts.{Verdict}
use mathlib.Core.Path.{◌≡◌, sym, ◌∙◌, subst}
use mathlib.Core.Logic.{◌↔◌, ◌⊎◌, inl, inr, ⊎_elim}
use Prim.Native.Nat.{ℕ, ◌+◌, ◌-◌, ◌/◌, ◌≤◌, ◌<◌}
use native.Mathlib.Nat.{le_refl}
use native.Mathlib.Omega.{arith}
use lib.ListN.{length}
use Rattle.finite.proofs.Decide.{Decides, by, decide-least, decide_same}
use Rattle.finite.proofs.Lowest.{lowest-is, lowest-not}
use Rattle.graph.specs.Network.{Walk}
use Rattle.nodes.specs.Limits.{max_degree}
use Rattle.refusal.specs.declared.Refusal.TheVariants.{Count, Shape, Ends, Order, Crowded, Apart, Short}
use Rattle.cabling.specs.Cabling.{Cabling, links, links_at, Above, Good}
use Rattle.cabling.specs.Faults.{link_fault, node_fault, unreached, fault_of}
use Rattle.cabling.specs.Verdicts.{EndsBad, OrderBad, Passed, PairsFine, Means, means_fine, means_count, means_shape, means_ends, means_order, means_crowded, means_apart}
use Rattle.cabling.proofs.Tests.{decide_counted, decide_shaped, decide_ends, decide_pair, decide_crowded, decide_unreached}
use Rattle.cabling.proofs.Cases.{pair_ends, pair_order, link_bad, link-fine, node-crowded, node_apart, node-fine, whole-count, whole_shape, whole-links}
use Rattle.cabling.proofs.Joined.{ends-network, walks_connected, connected_walks}

-- ---- a good cabling, and one with nothing to refuse

good-passed : {c : Cabling} → Good c → PairsFine c
good-passed {c} g = record {
  counted = (g.many, g.few);
  shaped = (g.even, g.short);
  fine = λ q l. (
    g.ends q l,
    by (decide_same q 0) inl (λ d. inr (let e : q - 1 + 1 ≡ q = omega arith in subst (Above c.pairs (q - 1)) e (g.rising (q - 1) (omega arith)))),
  );
}

passed-good : {c : Cabling} → PairsFine c → ((v : ℕ) → v < c.nodes → links_at c v ≤ max_degree)
    → ((v : ℕ) → v < c.nodes → Walk (links c) 0 v) → Good c
passed-good {c} b s w = record {
  many = b.counted.0;
  few = b.counted.1;
  even = b.shaped.0;
  short = b.shaped.1;
  ends = λ p l. (b.fine p l).0;
  rising = λ p l.
      ⊎_elim (λ z. absurd (omega arith)) (λ a. let e : p + 1 - 1 ≡ p = omega arith in subst (λ (x : ℕ). Above c.pairs x (p + 1)) e a)
      (b.fine (p + 1) l).1;
  sparse = s;
  connected = walks_connected c (λ p l. (b.fine p l).0) w;
}

module _ (c : Cabling) where
  -- the test of walks, once the pairs are fine
  parts : PairsFine c → (v : ℕ) → Decides (unreached c.nodes (links c) v) (Walk (links c) 0 v → ⊥) (Walk (links c) 0 v)
  parts b = let l = b.counted.0 in decide_unreached c.nodes (links c) (ends-network c (λ p k. (b.fine p k).0)) (omega arith)

  -- ---- where a row holds, `fault_of` answers its verdict

  to-links : {k : ℕ} → Passed c k → fault_of c ≡ link_fault c
  to-links b = whole-links c b.counted b.shaped

  to-nodes : PairsFine c → fault_of c ≡ node_fault c.nodes (links c) c.nodes
  to-nodes b = to-links b ∙ link-fine c _ b.fine (le_refl _)

  answers : {v : Verdict} → Means c v → fault_of c ≡ v
  answers (means_fine g) =
      let b = good-passed g in
      let many = g.many in
      let walks = connected_walks c g.ends (omega arith) g.connected in
      to-nodes b
      ∙ node-fine _ _ _ (lowest-not _ (decide_crowded c.nodes (links c)) g.sparse) (lowest-not _ (parts b) walks)
  answers (means_count h) = whole-count c h
  answers (means_shape h s) = whole_shape c h s
  answers (means_ends l b e) = to-links b ∙ link_bad c _ b.fine l (inl e) ∙ pair_ends c _ e
  answers (means_order l b e o) = to-links b ∙ link_bad c _ b.fine l (inr o) ∙ pair_order c _ e o
  answers (means_crowded b l d u) = to-nodes b ∙ node-crowded _ _ _ (lowest-is _ (decide_crowded c.nodes (links c)) _ l d u)
  answers (means_apart b s l w u) =
      to-nodes b
      ∙ node_apart _ _ _ (lowest-not _ (decide_crowded c.nodes (links c)) s) (lowest-is _ (parts b) _ l w u)

  -- ---- and some row holds

  row_of_nodes : PairsFine c → (v : Verdict) × Means c v
  row_of_nodes b =
      by (decide-least c.nodes (decide_crowded c.nodes (links c))) (λ f. (Err (Crowded _), means_crowded b f.0 f.1 f.2))
      (λ s.
      by (decide-least c.nodes (parts b)) (λ f. (Err (Apart _), means_apart b s f.0 f.1 f.2))
      (λ w. (Ok tt, means_fine (passed-good b s w))))

  row_of_pair : (p : ℕ) → p < length c.pairs / 2 → Passed c p → EndsBad c p ⊎ OrderBad c.pairs p → (v : Verdict) × Means c v
  row_of_pair p l b x =
      by (decide_ends c p) (λ e. (Err (Ends p), means_ends l b e))
      (λ e. (Err (Order p), means_order l b e (⊎_elim (λ y. absurd ((decide_ends c p).never y e)) (λ o. o) x)))

  row : (v : Verdict) × Means c v
  row =
      by (decide_counted c.nodes)
      (λ h.
      by (decide_shaped c.pairs)
      (λ s.
      by (decide-least (length c.pairs / 2) (decide_pair c))
      (λ f. row_of_pair _ f.0 (record { counted = h; shaped = s; fine = f.2 }) f.1)
      (λ f. row_of_nodes (record { counted = h; shaped = s; fine = f }))) (λ s. (Err Shape, means_shape h s))) (λ h. (Err Count, means_count h))

  -- `fault_of` answers v exactly where v's row holds
  pub fault_means : (v : Verdict) → (fault_of c ≡ v) ↔ Means c v
  fault_means v = (λ e. let (w, m) = row in subst (Means c) (sym (answers m) ∙ e) m, answers)

  -- the verdict is fine exactly for a good cabling
  pub fault-fine : (fault_of c ≡ Ok tt) ↔ Good c
  fault-fine = (λ e. good ((fault_means (Ok tt)).0 e), λ g. answers (means_fine g))
    where
      good : Means c (Ok tt) → Good c
      good (means_fine g) = g

  -- and never that of another call
  pub fault-not-short : fault_of c ≡ Err Short → ⊥
  fault-not-short e = none ((fault_means (Err Short)).0 e)
    where
      none : Means c (Err Short) → ⊥
      none = elim [ ]
