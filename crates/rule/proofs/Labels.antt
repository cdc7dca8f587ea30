-- The labels of a connected network: 1, 2, .. m, each exactly once; what remains at each stage is the nodes with higher labels, connected, and the
-- next label goes to the least candidate of them. No other labelling is like that.
use mathlib.Core.Path.{◌≡◌, refl, sym, ◌∙◌, ap, fun_ext, subst, subst⁻¹}
use mathlib.Core.Bool.{Bool, true}
use mathlib.Core.List.{List}
use Prim.Native.Nat.{ℕ, zero, suc, ◌+◌, ◌≤◌, ◌<◌}
use native.Mathlib.Nat.{add-suc, add-zero, le_refl, le_of_eq, le_dest}
use native.Mathlib.Omega.{arith}
use lib.Seq.{get_or-set_same, get_or-set_other}
use Rattle.finite.specs.Truth.{same, below}
use Rattle.finite.proofs.Truth.{bcase, iff, both, and_l, and_r, same-eq, same-ne, eq-same, below-lt, below-le, lt-below}
use Rattle.finite.proofs.Sum.{count-member}
use Rattle.finite.proofs.Sets.{in_without}
use Rattle.finite.proofs.Lists.{get_or-zeros}
use Rattle.graph.specs.Network.{Network, Connected}
use Rattle.lawful.specs.Turn.{label_in}
use Rattle.rule.specs.Candidate.{Chosen}
use Rattle.rule.specs.Labels.{remains, labelled, labels_of, above, ByRule}
use Rattle.rule.proofs.Choice.{candidate_in, chosen_unique}
use Rattle.rule.proofs.Stages.{Staged, staged, node_at, node-chosen, labelled-more, remains-more, remains-low}

-- a node remains where it is one of the first m and its label is 0
remains-zero : (m : ℕ) (labels : List ℕ) (v : ℕ) → remains m labels v ≡ true → label_in labels v ≡ 0
unfolding remains
remains-zero m labels v h = same-eq _ _ (and_r _ _ h)

zero-remains : (m : ℕ) (labels : List ℕ) (v : ℕ) → v < m → label_in labels v ≡ 0 → remains m labels v ≡ true
unfolding remains
zero-remains m labels v l e = both (lt-below l) (eq-same e)

pub in_above : (m : ℕ) (label : ℕ → ℕ) {k v : ℕ} → v < m → k < label v → above m label k v ≡ true
unfolding above
in_above m label b l = both (lt-below b) (lt-below l)

pub above_low : (m : ℕ) (label : ℕ → ℕ) (k v : ℕ) → above m label k v ≡ true → v < m
unfolding above
above_low m label k v h = below-lt _ _ (and_l _ _ h)

pub above_gt : (m : ℕ) (label : ℕ → ℕ) (k v : ℕ) → above m label k v ≡ true → k < label v
unfolding above
above_gt m label k v h = below-lt _ _ (and_r _ _ h)

module _ (n : ℕ) (edge : ℕ → ℕ → Bool) (net : Network n edge) (m : ℕ) (small : m ≤ n) (whole : Connected edge (λ v. below v m)) where
  abbrev after : ℕ → ℕ → ℕ
  after k v = label_in (labelled n edge m k) v

  abbrev at : (k : ℕ) → k ≤ m → Staged n edge net m small whole k
  at k l = staged n edge net m small whole k l

  abbrev node : ℕ → ℕ
  node k = node_at n edge net m small whole k

  chosen : (k : ℕ) → k < m → Chosen n edge (remains m (labelled n edge m k)) (node k)
  chosen k l = node-chosen n edge net m small whole k (at k (omega arith)) l

  node-remains : (k : ℕ) → k < m → remains m (labelled n edge m k) (node k) ≡ true
  node-remains k l = candidate_in n edge _ (node k) (chosen k l).fact

  -- one stage: the chosen node gets label k + 1, the others keep theirs
  after-new : (k : ℕ) → k < m → after (suc k) (node k) ≡ suc k
  after-new k l =
      ap (λ (x : List ℕ). label_in x (node k)) (labelled-more n edge net m small whole k (at k (omega arith)) l)
      ∙ get_or-set_same (labelled n edge m k) (node k) (suc k) 0 (rw (at k (omega arith)).size (chosen k l).low)

  after-old : (k v : ℕ) → k < m → (v ≡ node k → ⊥) → after (suc k) v ≡ after k v
  after-old k v l d =
      ap (λ (x : List ℕ). label_in x v) (labelled-more n edge net m small whole k (at k (omega arith)) l)
      ∙ get_or-set_other (labelled n edge m k) (node k) v (suc k) 0 d

  -- labels given by stage k are at most k
  after-le : (k v : ℕ) → k ≤ m → after k v ≤ k
  unfolding labelled
  after-le zero v l = le_of_eq (get_or-zeros n v)
  after-le (suc k) v l =
      bcase (same v (node k)) (λ q. rw (same-eq _ _ q) (le_of_eq (after-new k l)))
      (λ q. let e = after-old k v l (same-ne _ _ q) in let i = after-le k v (omega arith) in omega arith)

  -- from stage k on: a label that is given stays, and one that is given later is above k
  record Later (k j v : ℕ) : Type 0 where
    stays : (after k v ≡ 0 → ⊥) → after j v ≡ after k v
    higher : after k v ≡ 0 → (after j v ≡ 0 → ⊥) → k < after j v

  later : (k i v : ℕ) → k + i ≤ m → Later k (k + i) v
  later k zero v l = rw (add-zero k) (record { stays = λ h. refl; higher = λ e h. absurd (h e) })
  later k (suc i) v l =
      let t = later k i v (omega arith) in
      let j : k + i < m = omega arith in
      rw (add-suc k i)
      (bcase (same v (node (k + i)))
      (λ q.
      let e = same-eq _ _ q in
      let z : after (k + i) v ≡ 0 = rw e (remains-zero m _ _ (node-remains (k + i) j)) in
      let new : after (suc (k + i)) v ≡ suc (k + i) = rw e (after-new (k + i) j) in
      record {
        stays = λ h. absurd (h (sym (t.stays h) ∙ z));
        higher = λ o h. omega arith;
      })
      (λ q.
      let e = after-old (k + i) v j (same-ne _ _ q) in
      record {
        stays = λ h. e ∙ t.stays h;
        higher = λ o h. rw e (t.higher o (λ z. h (e ∙ z)));
      }))

  to_end : (k v : ℕ) → k ≤ m → Later k m v
  to_end k v l = let (i, e) = le_dest l in subst (λ (j : ℕ). Later k j v) e (later k i v (omega arith))

  abbrev pub label : ℕ → ℕ
  label v = label_in (labels_of n edge m) v

  label-end : (v : ℕ) → label v ≡ after m v
  unfolding labels_of
  label-end v = refl

  -- after m stages nothing remains
  none_left : (v : ℕ) → v < m → after m v ≡ 0 → ⊥
  none_left v l z =
      let c = count-member n (remains m (labelled n edge m m)) v (omega arith) (zero-remains m _ v l z) in
      let f = (at m (le_refl m)).left in
      omega arith

  -- what remains after k stages are the nodes with labels above k
  pub remains-above : (k : ℕ) → k ≤ m → remains m (labelled n edge m k) ≡ above m label k
  unfolding above
  remains-above k l =
      fun_ext (λ v.
      let t = to_end k v l in
      let e = label-end v in
      iff _ _
      (λ h.
      let b = remains-low m _ v h in
      let k< = t.higher (remains-zero m _ v h) (none_left v b) in
      both (lt-below b) (lt-below (omega arith)))
      (λ h.
      let b = below-lt _ _ (and_l _ _ h) in
      bcase (same (after k v) 0) (λ q. zero-remains m _ v b (same-eq _ _ q))
      (λ q.
      let s = t.stays (same-ne _ _ q) in
      let u = after-le k v l in
      let w = below-lt _ _ (and_r _ _ h) in
      absurd (omega arith))))

  -- ---- the labels are 1, 2, .. m, each exactly once

  pub label_pos : (v : ℕ) → v < m → 0 < label v
  label_pos v l =
      bcase (same (label v) 0) (λ q. absurd (none_left v l (sym (label-end v) ∙ same-eq _ _ q))) (λ q. let d = same-ne _ _ q in omega arith)

  pub label-le : (v : ℕ) → label v ≤ m
  label-le v = rw (label-end v) (after-le m v (le_refl m))

  -- label k + 1 stands at the node of stage k
  pub label-node : (k : ℕ) → k < m → label (node k) ≡ suc k
  label-node k l =
      let e = after-new k l in
      label-end (node k) ∙ (to_end (suc k) (node k) l).stays (λ z. omega arith) ∙ e

  -- and nowhere else
  pub node-label : (v k : ℕ) → v < m → label v ≡ suc k → v ≡ node k
  node-label v k b e =
      let l : k < m = let i = label-le v in omega arith in
      bcase (same (node k) v) (λ q. sym (same-eq _ _ q))
      (λ q.
      let now = ap (λ (R : ℕ → Bool). R v) (remains-above k (omega arith)) ∙ in_above m label b (omega arith) in
      let next = ap (λ (R : ℕ → Bool). R v) (remains-more n edge net m small whole k (at k (omega arith)) l) ∙ in_without _ now (same-ne _ _ q) in
      let more = above_gt m label (suc k) v (sym (ap (λ (R : ℕ → Bool). R v) (remains-above (suc k) l)) ∙ next) in
      absurd (omega arith))

  pub label_once : (u v : ℕ) → u < m → v < m → label u ≡ label v → u ≡ v
  label_once u v a b e =
      let p = label_pos u a in
      let (k, q) = le_dest p in
      let f : label u ≡ suc k = omega arith in
      node-label u k a f ∙ sym (node-label v k b (sym e ∙ f))

  -- a number that is no node has none
  after_out : (k v : ℕ) → k ≤ m → m ≤ v → after k v ≡ 0
  unfolding labelled
  after_out zero v l h = get_or-zeros n v
  after_out (suc k) v l h =
      let b = remains-low m _ _ (node-remains k l) in
      after-old k v l (λ e. absurd (omega arith)) ∙ after_out k v (omega arith) h

  pub label_out : (v : ℕ) → m ≤ v → label v ≡ 0
  label_out v h = label-end v ∙ after_out m v (le_refl m) h

  -- ---- the rule

  -- at each stage what remains is connected
  pub above-connected : (k : ℕ) → k ≤ m → Connected edge (above m label k)
  above-connected k l = subst (Connected edge) (remains-above k l) (at k l).connected

  node-above : (k : ℕ) → k < m → Chosen n edge (above m label k) (node k)
  node-above k l = subst (λ (R : ℕ → Bool). Chosen n edge R (node k)) (remains-above k (omega arith)) (chosen k l)

  pub labels-by_rule : ByRule n edge m label
  labels-by_rule = record {
    positive = label_pos;
    given = λ k l. record { at = node k; low = remains-low m _ _ (node-remains k l); fact = eq-same (label-node k l) };
    chosen = λ v k b e. let i = label-le v in subst⁻¹ (Chosen n edge (above m label k)) (node-label v k b e) (node-above k (omega arith));
  }

  -- any labelling by the rule agrees with this one: label by label, from 1 on
  module _ (other : ℕ → ℕ) (rule : ByRule n edge m other) where
    -- once the nodes with labels above k are the same, the next label goes to the same node
    next : (k : ℕ) → k < m → above m other k ≡ above m label k → (v : ℕ) → v < m → other v ≡ suc k → v ≡ node k
    next k l e v b q =
        chosen_unique n edge (above m label k) v (node k) (subst (λ (R : ℕ → Bool). Chosen n edge R v) e (rule.chosen v k b q)) (node-above k l)

    agree : (k : ℕ) → k ≤ m → above m other k ≡ above m label k
    agree zero l =
        fun_ext (λ v.
        iff _ _ (λ h. let b = above_low m other 0 v h in in_above m label b (label_pos v b))
        (λ h. let b = above_low m label 0 v h in in_above m other b (rule.positive v b)))
    agree (suc k) l =
        let e = agree k (omega arith) in
        let w = rule.given k l in
        let at-w = next k l e w.at w.low (same-eq _ _ w.fact) in
        fun_ext (λ v.
        iff _ _
        (λ h.
        let b = above_low m other (suc k) v h in
        let g = above_gt m other (suc k) v h in
        let f = above_gt m label k v (sym (ap (λ (R : ℕ → Bool). R v) e) ∙ in_above m other b (omega arith)) in
        bcase (same (label v) (suc k))
        (λ q.
        let x : other v ≡ suc k = ap other (node-label v k b (same-eq _ _ q) ∙ sym at-w) ∙ same-eq _ _ w.fact in
        absurd (omega arith))
        (λ q. let d = same-ne _ _ q in in_above m label b (omega arith)))
        (λ h.
        let b = above_low m label (suc k) v h in
        let g = above_gt m label (suc k) v h in
        let f = above_gt m other k v (ap (λ (R : ℕ → Bool). R v) e ∙ in_above m label b (omega arith)) in
        bcase (same (other v) (suc k))
        (λ q.
        let x : label v ≡ suc k = ap label (next k l e v b (same-eq _ _ q)) ∙ label-node k l in
        absurd (omega arith))
        (λ q. let d = same-ne _ _ q in in_above m other b (omega arith))))

    pub labels_unique : (v : ℕ) → v < m → other v ≡ label v
    labels_unique v b =
        let p = label_pos v b in
        let t = label-le v in
        let (k, q) = le_dest p in
        let f = above_gt m other k v (ap (λ (R : ℕ → Bool). R v) (agree k (omega arith)) ∙ in_above m label b (omega arith)) in
        bcase (below (suc k) (other v))
        (λ h.
        let g = above_gt m label (suc k) v (sym (ap (λ (R : ℕ → Bool). R v) (agree (suc k) (omega arith))) ∙ in_above m other b (below-lt _ _ h)) in
        absurd (omega arith))
        (λ h. let g = below-le _ _ h in omega arith)
