-- One class of a round, node by node: the nodes passed have joined where a hop leads from them, the others are as they were.
use mathlib.Core.Path.{◌≡◌, sym, ◌∙◌, ap, ap₂}
use mathlib.Core.Bool.{Bool, true, false}
use mathlib.Core.List.{List}
use Prim.Native.Nat.{ℕ, ◌^◌, ◌≤◌, ◌<◌}
use lib.ListN.{length, get_or, set, length-set}
use lib.Seq.{get_or-set_same, get_or-set_other}
use Rattle.finite.specs.Truth.{◌&◌, ◌or◌, non, same, below}
use Rattle.finite.specs.Search.{least}
use Rattle.finite.specs.Sets.{has, set_of}
use Rattle.finite.proofs.Truth.{no_tf, bcase, refute, both, and_l, and_r, and_true, true_and, or_r, or_case, true-non, non-true, same-eq, same-ne, eq-same, ne_same, lt-below, le_below, false_or, or_anew}
use Rattle.finite.proofs.Search.{least_cong}
use Rattle.finite.proofs.Sets.{has_0, has-lt, has-set_of, set_ext}
use Rattle.finite.proofs.Lists.{tabulate_ext}
use Rattle.nodes.specs.Limits.{max_nodes}
use Rattle.nodes.proofs.Words.{word_lt}
use Rattle.nodes.proofs.Passing.{Pass}
use Rattle.rows.specs.Steps.{pick, lead_of, Worth, half_of}
use Rattle.rows.specs.declared.Side.{Side}

pub side_ext : {a b : Side} → a.members ≡ b.members → a.entries ≡ b.entries → a ≡ b
side_ext p q = λ i. record { members = p i; entries = q i }

-- the lowest member of the union of two sets
pub lead-word : (p q : ℕ → Bool) {a b w : ℕ} → a ≡ set_of max_nodes p → b ≡ set_of max_nodes q → w ≡ set_of max_nodes (λ u. has a u or has b u)
    → least max_nodes (has w) ≡ least max_nodes (λ u. p u or q u)
lead-word p q d e f =
    rw f (least_cong max_nodes _ _ (λ u l. has-set_of max_nodes _ u l ∙ rw (d, e) (ap₂ ◌or◌ (has-set_of max_nodes p u l) (has-set_of max_nodes q u l))))

-- ---- node by node

-- has k been passed, and joined in passing? m is the set of those that had joined before, left of those not yet passed
unfoldable pub joined : (ℕ → ℕ) → ℕ → ℕ → ℕ → Bool
joined lead m left k = non (has left k) & (below (lead k) max_nodes & non (has m k))

module _ (lead : ℕ → ℕ) (m left k : ℕ) where
  not-passed : has left k ≡ true → joined lead m left k ≡ false
  unfolding joined
  not-passed t = refute _ (λ h. no_tf t (non-true _ (and_l _ _ h)))

  passed : has left k ≡ false → joined lead m left k ≡ below (lead k) max_nodes & non (has m k)
  unfolding joined
  passed t = ap (λ (x : Bool). x & (below (lead k) max_nodes & non (has m k))) (true-non t) ∙ and_true _

  other : (next : ℕ) → has next k ≡ has left k → joined lead m next k ≡ joined lead m left k
  unfolding joined
  other next e = ap (λ (x : Bool). non x & (below (lead k) max_nodes & non (has m k))) e

-- the set m and the entries e, from which half a round starts, and what they are once all but those left are passed
pub record Halving (lead : ℕ → ℕ) (m : ℕ) (e : List ℕ) (members : ℕ) (entries : List ℕ) (left : ℕ) : Type 0 where
  pub word : members < 2 ^ max_nodes
  pub size : length entries ≡ max_nodes
  pub left_word : left < 2 ^ max_nodes
  pub new : (k : ℕ) → has left k ≡ true → has m k ≡ false
  pub joins : (k : ℕ) → k < max_nodes → has members k ≡ has m k or joined lead m left k
  pub takes : (k : ℕ) → k < max_nodes → get_or entries k 0 ≡ pick (joined lead m left k) (lead k) (get_or e k 0)

-- those are left that are worth asking and have not joined
pub halving_none : (up down : List ℕ) (free falling m worth : ℕ) {e : List ℕ} {left : ℕ} → m < 2 ^ max_nodes → length e ≡ max_nodes
    → Worth up down free falling m (has worth) → left ≡ set_of max_nodes (λ v. has worth v & non (has m v)) → Halving (lead_of up down free falling) m e m e left
halving_none up down free falling m worth {e} {left} word size f g = record {
  word = word;
  size = size;
  left_word = word_lt max_nodes _ g;
  new = λ k t. non-true _ (and_r _ _ (sym (in_left k (has-lt max_nodes left k (word_lt max_nodes _ g) t)) ∙ t));
  joins = λ k l. sym (ap (λ (x : Bool). has m k or x) (none k l) ∙ false_or _);
  takes = λ k l. rw (none k l);
}
  where
    in_left : (k : ℕ) → k < max_nodes → has left k ≡ has worth k & non (has m k)
    in_left k l = ap (λ (x : ℕ). has x k) g ∙ has-set_of max_nodes _ k l

    none : (k : ℕ) → k < max_nodes → joined (lead_of up down free falling) m left k ≡ false
    none k l =
        bcase (has left k) (not-passed _ m left k)
        (λ t.
        passed _ m left k t
        ∙ refute _ (λ h.
        or_case _ _ (f k l (and_l _ _ h)) (λ i. no_tf i (non-true _ (and_r _ _ h))) (λ i. no_tf (in_left k l ∙ both i (and_r _ _ h)) t)))

-- the lowest node is passed
module _ {lead : ℕ → ℕ} {m : ℕ} {e : List ℕ} {members : ℕ} {entries : List ℕ} {left v u next : ℕ} (h : Halving lead m e members entries left)
    (p : Pass left v next) (leads : u ≡ lead v) where
  stays : (k : ℕ) → (k ≡ v → ⊥) → joined lead m next k ≡ joined lead m left k
  stays k d = other lead m left k next (p.kept k d)

  -- whether it joins
  joins-here : joined lead m next v ≡ below u max_nodes
  joins-here =
      passed lead m next v p.gone ∙ ap₂ (λ (x : ℕ) (y : Bool). below x max_nodes & y) (sym leads) (true-non (h.new v p.here)) ∙ true_and _

  pub halving_joins : {more : ℕ} → u < max_nodes → more ≡ set_of max_nodes (λ a. has members a or same v a) → Halving lead m e more (set entries v u) next
  halving_joins {more} l f = record {
    word = word_lt max_nodes _ f;
    size = length-set entries v u ∙ h.size;
    left_word = p.word;
    new = λ k t. h.new k (p.inside k t);
    joins = λ k b.
        ap (λ (x : ℕ). has x k) f ∙ has-set_of max_nodes _ k b
        ∙ bcase (same k v)
        (λ q. let i = same-eq k v q in or_r _ (eq-same (sym i)) ∙ sym (or_r _ (ap (joined lead m next) i ∙ joins-here ∙ lt-below l)))
        (λ q.
        let d = same-ne k v q in
        ap (λ (x : Bool). has members k or x) (ne_same (λ i. d (sym i))) ∙ false_or _ ∙ h.joins k b ∙ ap (λ (x : Bool). has m k or x) (sym (stays k d)));
    takes = λ k b.
        bcase (same k v)
        (λ q. rw (same-eq k v q, joins-here, lt-below l) (get_or-set_same entries v u 0 (rw h.size p.node) ∙ leads))
        (λ q. let d = same-ne k v q in rw (stays k d) (get_or-set_other entries v k u 0 d ∙ h.takes k b));
  }

  pub halving_stays : max_nodes ≤ u → Halving lead m e members entries next
  halving_stays l = record {
    word = h.word;
    size = h.size;
    left_word = p.word;
    new = λ k t. h.new k (p.inside k t);
    joins = λ k b. h.joins k b ∙ ap (λ (x : Bool). has m k or x) (sym (alike k));
    takes = λ k b. rw (alike k) (h.takes k b);
  }
    where
      alike : (k : ℕ) → joined lead m next k ≡ joined lead m left k
      alike k =
          bcase (same k v)
          (λ q.
          let i = same-eq k v q in
          ap (joined lead m next) i ∙ joins-here ∙ le_below l ∙ sym (not-passed lead m left k (ap (has left) i ∙ p.here)))
          (λ q. stays k (same-ne k v q))

pub halving_all : (up down : List ℕ) (free falling : ℕ) (s : Side) {members : ℕ} {entries : List ℕ} {left : ℕ}
    → Halving (lead_of up down free falling) s.members s.entries members entries left → left ≡ 0
    → record { members = members; entries = entries } ≡ half_of up down free falling s
unfolding half_of
halving_all up down free falling s {members} {entries} {left} h z =
    let all : (k : ℕ) → joined (lead_of up down free falling) s.members left k ≡ below (lead_of up down free falling k) max_nodes & non (has s.members k) =
    λ k. passed (lead_of up down free falling) s.members left k (ap (λ (x : ℕ). has x k) z ∙ has_0 k) in
    side_ext (set_ext max_nodes _ _ h.word (λ k b. h.joins k b ∙ ap (λ (x : Bool). has s.members k or x) (all k) ∙ or_anew _ _))
    (tabulate_ext max_nodes _ 0 entries h.size (λ k b. rw (← all k) (h.takes k b)))
