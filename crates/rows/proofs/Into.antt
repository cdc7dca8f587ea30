-- The rows turned round: node by node each enters the rows of those that it has a hop to.
use mathlib.Core.Path.{◌≡◌, refl, sym, ◌∙◌}
use mathlib.Core.List.{List}
use Prim.Native.Nat.{ℕ, ◌+◌, ◌^◌, ◌≤◌, ◌<◌, zero-le}
use native.Mathlib.Omega.{arith}
use lib.Dec.{lit<}
use lib.ListN.{length, get_or, replicate, length-set, length-replicate}
use lib.ListN.{set as store}
use lib.Seq.{get_or-set_same, get_or-set_other}
use Rattle.finite.specs.Truth.{◌&◌, ◌or◌, same, below}
use Rattle.finite.specs.Sets.{has, set_of}
use Rattle.finite.proofs.Truth.{bcase, and_true, and_false, or_false, false_and, true_and, same_refl, same-eq, same-ne, lt-below, le_below, false_or, below_next}
use Rattle.finite.proofs.Sets.{has_0, has-set_of}
use Rattle.finite.proofs.Lists.{get_or-zeros}
use Rattle.nodes.specs.Limits.{max_nodes}
use Rattle.nodes.proofs.Words.{word_lt}
use Rattle.nodes.proofs.Passing.{Pass}
use Rattle.network.specs.Table.{neighbours_of, edge_of, table_from}
use Rattle.network.proofs.Table.{Words, edge-table_from, table_ext, table_from_cong}
use Rattle.rows.specs.Steps.{entered_of, into_of}

-- ---- one node

-- once v also enters the rows of those left, it has entered those of the whole set
pub record Entering (v set : ℕ) (old from : List ℕ) (left : ℕ) : Type 0 where
  pub left_word : left < 2 ^ max_nodes
  pub size : length from ≡ max_nodes
  pub words : Words from
  pub whole : (u a : ℕ) → a < max_nodes → edge_of from u a or has left u & same v a ≡ edge_of old u a or has set u & same v a

pub entering_none : (v : ℕ) {set : ℕ} {from : List ℕ} → set < 2 ^ max_nodes → length from ≡ max_nodes → Words from → Entering v set from from set
entering_none v l e w = record { left_word = l; size = e; words = w; whole = λ u a b. refl }

pub entering_more : {v set left u next word : ℕ} {old from : List ℕ} → Entering v set old from left → Pass left u next
    → word ≡ set_of max_nodes (λ a. has (neighbours_of from u) a or same v a) → Entering v set old (store from u word) next
unfolding edge_of
entering_more {v} {left = left} {u} {next} {word} {from = from} h p e = record {
  left_word = p.word;
  size = length-set from u word ∙ h.size;
  words = λ k. bcase (same k u) (λ q. rw (same-eq k u q, here) (word_lt max_nodes _ e)) (λ q. rw (get_or-set_other from u k word 0 (same-ne k u q)) (h.words k));
  whole = λ k a b.
      bcase (same k u)
      (λ q. rw (same-eq k u q, here, p.gone, e, has-set_of max_nodes _ a b, and_false, false_or) (simp (p.here, and_true) at (h.whole u a b)))
      (λ q. let d = same-ne k u q in rw (get_or-set_other from u k word 0 d, p.kept k d) (h.whole k a b));
}
  where
    here : get_or (store from u word) u 0 ≡ word
    here = get_or-set_same from u word 0 (rw h.size p.node)

pub entering_all : {v set left : ℕ} {old from : List ℕ} → Entering v set old from left → left ≡ 0 → from ≡ entered_of v set old
unfolding entered_of
entering_all {from = from} h z = table_ext from _ h.size h.words (λ u a k b. simp (z, has_0, and_false, false_or) at (h.whole u a b))

-- ---- all nodes

-- the nodes below v have entered
abbrev pub Gathered : List ℕ → List ℕ → ℕ → Type 0
Gathered ways from v = from ≡ table_from (λ u k. below k v & edge_of ways k u)

module _ (ways : List ℕ) where
  pub gathered_none : Gathered ways (replicate max_nodes 0) 0
  unfolding edge_of
  gathered_none =
      table_ext (replicate max_nodes 0) _ (length-replicate {A = ℕ} max_nodes 0) (λ a. rw (get_or-zeros max_nodes a) (lit< tt))
      (λ a b k l. rw (get_or-zeros max_nodes a, has_0, le_below {a = b} zero-le, and_false))

  -- the nodes below v, and v, are those below v + 1
  one_more : (v k u : ℕ) → (below k v & edge_of ways k u) or edge_of ways v u & same v k ≡ below k (v + 1) & edge_of ways k u
  one_more v k u =
      bcase (same v k)
      (λ q. rw (← same-eq v k q, lt-below {a = v} {b = v + 1} (omega arith), le_below {a = v} {b = v} (omega arith), same_refl, and_false, or_false, true_and, and_true))
      (λ q. rw (q, false_and, false_or, below_next k v (λ e. same-ne v k q (sym e))))

  pub gathered_more : (v : ℕ) {row : ℕ} {from next : List ℕ} → Gathered ways from v → row ≡ neighbours_of ways v
      → next ≡ entered_of v row from → Gathered ways next (v + 1)
  unfolding entered_of edge_of
  gathered_more v h r e =
      e ∙ table_from_cong _ _ (λ u k a b. rw (h, edge-table_from _ u k a b, r) (one_more v k u))

  pub gathered_all : (v : ℕ) {from : List ℕ} → Gathered ways from v → max_nodes ≤ v → from ≡ into_of ways
  unfolding into_of
  gathered_all v h l = h ∙ table_from_cong _ _ (λ u k a b. rw (lt-below {a = k} {b = v} (omega arith)) (and_true _))
