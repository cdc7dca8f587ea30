-- The stages one by one, on a connected network: what remains loses the chosen node, stays connected, and has one node less.
use mathlib.Core.Path.{◌≡◌, sym, ◌∙◌, ap, fun_ext}
use mathlib.Core.Bool.{Bool, true}
use mathlib.Core.List.{List}
use Prim.Native.Nat.{ℕ, zero, suc, ◌+◌, ◌≤◌, ◌<◌}
use native.Mathlib.Omega.{arith}
use lib.ListN.{length, set, replicate, length-set, length-replicate}
use lib.Seq.{get_or-set_same, get_or-set_other}
use Rattle.finite.specs.Truth.{◌&◌, same, below}
use Rattle.finite.specs.Sum.{count}
use Rattle.finite.specs.Sets.{without}
use Rattle.finite.proofs.Truth.{no_tf, bcase, iff, refute, both, and_l, and_r, true_and, non-true, true-non, same-eq, same-ne, eq-same, below-lt, lt-below, below-le}
use Rattle.finite.proofs.Sum.{count-without, count-below}
use Rattle.finite.proofs.Search.{count-some}
use Rattle.finite.proofs.Lists.{get_or-zeros}
use Rattle.finite.proofs.Sets.{without_other}
use Rattle.graph.specs.Network.{Network, Members, Connected}
use Rattle.graph.proofs.Connected.{uncut-connected}
use Rattle.lawful.specs.Turn.{label_in}
use Rattle.rule.specs.Candidate.{choice, Chosen}
use Rattle.rule.specs.Labels.{remains, give, stage, labelled}
use Rattle.rule.proofs.Exists.{candidate_exists}
use Rattle.rule.proofs.Choice.{choice-chosen, candidate_in, candidate-uncut}

pub remains-low : (m : ℕ) (labels : List ℕ) (v : ℕ) → remains m labels v ≡ true → v < m
unfolding remains
remains-low m labels v h = below-lt _ _ (and_l _ _ h)

pub remains_in : (m n : ℕ) (labels : List ℕ) → m ≤ n → Members n (remains m labels)
remains_in m n labels few v h = let l = remains-low m labels v h in omega arith

-- at first all m nodes remain
pub remains-start : (n m : ℕ) → remains m (replicate n 0) ≡ (λ v. below v m)
unfolding remains
remains-start n m = fun_ext (λ v. ap (λ (b : Bool). below v m & b) (eq-same (get_or-zeros n v)) ∙ true_and _)

-- a node that gets a label is taken out of what remains
pub remains-set : (m v k : ℕ) (labels : List ℕ) → v < length labels → remains m (set labels v (suc k)) ≡ without (remains m labels) v
unfolding remains without
remains-set m v k labels l =
    fun_ext (λ u.
    bcase (same v u)
    (λ t.
    let e = same-eq v u t in
    let z : label_in (set labels v (suc k)) u ≡ suc k = rw (← e) (get_or-set_same labels v (suc k) 0 l) in
    refute _ (λ h. let q = same-eq _ _ (and_r _ _ h) in omega arith)
    ∙ sym (refute _ (λ h. no_tf t (non-true _ (and_r _ _ h)))))
    (λ t.
    let d = same-ne v u t in
    ap (λ (x : ℕ). below u m & same x 0) (get_or-set_other labels v u (suc k) 0 (λ e. d (sym e)))
    ∙ iff _ _ (λ h. both h (true-non t)) (λ h. and_l _ _ h)))

pub give-length : (n v k : ℕ) (labels : List ℕ) → length (give n v k labels) ≡ length labels
unfolding give
give-length n v k labels = bcase (below v n) (λ t. rw (t, give) (length-set labels v k)) (λ t. rw (t, give))

-- giving v a label takes it out of what remains, and so does giving none to a v that is no node
pub remains-give : (n m v k : ℕ) (labels : List ℕ) → length labels ≡ n → m ≤ n → remains m (give n v (suc k) labels) ≡ without (remains m labels) v
unfolding give remains
remains-give n m v k labels e l =
    bcase (below v n) (λ t. rw (t, give) (remains-set m v k labels (rw e (below-lt _ _ t))))
    (λ t.
    rw (t, give) (fun_ext (λ u.
    sym (without_other (remains m labels) v u (refute _ (λ h. let a = below-lt _ _ (and_l _ _ h) in let b = below-le _ _ t in omega arith))))))

-- there are always n labels
pub labelled-length : (n : ℕ) (edge : ℕ → ℕ → Bool) (m k : ℕ) → length (labelled n edge m k) ≡ n
unfolding labelled stage
labelled-length n edge m zero = length-replicate {A = ℕ} n 0
labelled-length n edge m (suc k) = give-length n _ (suc k) (labelled n edge m k) ∙ labelled-length n edge m k

module _ (n : ℕ) (edge : ℕ → ℕ → Bool) (net : Network n edge) (m : ℕ) (small : m ≤ n) (whole : Connected edge (λ v. below v m)) where
  -- the state after k stages
  pub record Staged (k : ℕ) : Type 0 where
    pub size : length (labelled n edge m k) ≡ n
    pub left : count n (remains m (labelled n edge m k)) + k ≡ m
    pub connected : Connected edge (remains m (labelled n edge m k))

  -- the node that gets label k + 1
  abbrev pub node_at : ℕ → ℕ
  node_at k = choice n edge (remains m (labelled n edge m k))

  staged-none : Staged 0
  unfolding labelled
  staged-none = record {
    size = length-replicate {A = ℕ} n 0;
    left = let e = count-below n m small in rw (remains-start n m) (omega arith);
    connected = rw (remains-start n m) whole;
  }

  -- while a node remains, one is chosen
  pub node-chosen : (k : ℕ) → Staged k → k < m → Chosen n edge (remains m (labelled n edge m k)) (node_at k)
  node-chosen k s l = choice-chosen n edge _ (candidate_exists n edge net _ (remains_in m n _ small) s.connected (count-some n _ (let e = s.left in omega arith)))

  pub labelled-more : (k : ℕ) → Staged k → k < m → labelled n edge m (suc k) ≡ set (labelled n edge m k) (node_at k) (suc k)
  unfolding labelled stage give
  labelled-more k s l = rw (lt-below (node-chosen k s l).low, give)

  pub remains-more : (k : ℕ) → Staged k → k < m
      → remains m (labelled n edge m (suc k)) ≡ without (remains m (labelled n edge m k)) (node_at k)
  remains-more k s l =
      ap (remains m) (labelled-more k s l) ∙ remains-set m (node_at k) k _ (rw s.size (node-chosen k s l).low)

  staged-more : (k : ℕ) → Staged k → k < m → Staged (suc k)
  staged-more k s l =
      let c = node-chosen k s l in
      let R : ℕ → Bool = remains m (labelled n edge m k) in
      let e = count-without n R (node_at k) c.low (candidate_in n edge R (node_at k) c.fact) in
      let f = s.left in
      record {
        size = ap length (labelled-more k s l) ∙ length-set (labelled n edge m k) (node_at k) (suc k) ∙ s.size;
        left = rw (remains-more k s l) (omega arith);
        connected = rw (remains-more k s l) (uncut-connected n edge net R (remains_in m n _ small) (node_at k) (candidate-uncut n edge R (node_at k) c.fact));
      }

  pub staged : (k : ℕ) → k ≤ m → Staged k
  staged zero l = staged-none
  staged (suc k) l = staged-more k (staged k (omega arith)) l
