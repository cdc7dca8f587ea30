-- The union of the words of a set's nodes, node by node.
use mathlib.Core.Path.{◌≡◌, sym, ◌∙◌, ap}
use mathlib.Core.Bool.{false}
use mathlib.Core.List.{List}
use Prim.Native.Nat.{ℕ, ◌^◌, ◌<◌}
use lib.Dec.{lit<}
use Rattle.finite.specs.Truth.{◌or◌, same}
use Rattle.finite.specs.Sets.{has, set_of}
use Rattle.finite.proofs.Truth.{no_tf, bcase, iff, refute, both, and_l, and_r, or_l, or_r, or_case, or_false, same-eq, same-ne, false_or}
use Rattle.finite.proofs.Search.{some-any, any_some}
use Rattle.finite.proofs.Sets.{has_0, has-set_of, set_ext}
use Rattle.nodes.specs.Limits.{max_nodes}
use Rattle.nodes.proofs.Words.{word_lt}
use Rattle.nodes.proofs.Passing.{Pass}
use Rattle.network.specs.Table.{neighbours_of, edge_of}
use Rattle.rows.specs.Steps.{touches}

-- all, and the words of those left, are the words of the whole set
pub record Touching (from : List ℕ) (set all left : ℕ) : Type 0 where
  pub word : all < 2 ^ max_nodes
  pub left_word : left < 2 ^ max_nodes
  pub whole : (k : ℕ) → k < max_nodes → has all k or touches from left k ≡ touches from set k

pub touching_none : (from : List ℕ) {set : ℕ} → set < 2 ^ max_nodes → Touching from set 0 set
touching_none from l = record { word = lit< tt; left_word = l; whole = λ k b. rw (has_0, or_false) }

pub touching_more : {from : List ℕ} {set all left u next row more : ℕ} → Touching from set all left → Pass left u next → row ≡ neighbours_of from u
    → more ≡ set_of max_nodes (λ k. has all k or has row k) → Touching from set more next
unfolding touches edge_of
touching_more {from} {all = all} {left} {u} {next} h p r e = record {
  word = word_lt max_nodes _ e;
  left_word = p.word;
  whole = λ k b. rw (e, has-set_of max_nodes _ k b, r) (given k ∙ h.whole k b);
}
  where
    given : (k : ℕ) → (has all k or has (neighbours_of from u) k) or touches from next k ≡ has all k or touches from left k
    given k =
        iff _ _
        (λ t.
        or_case _ _ t (λ s. or_case _ _ s (or_l _) (λ i. or_r _ (some-any max_nodes _ u p.node (both p.here i))))
        (λ s. let w = any_some max_nodes _ s in or_r _ (some-any max_nodes _ w.at w.low (both (p.inside _ (and_l _ _ w.fact)) (and_r _ _ w.fact)))))
        (λ t.
        or_case _ _ t (λ s. or_l _ (or_l _ s))
        (λ s.
        let w = any_some max_nodes _ s in
        bcase (same w.at u)
        (λ q. or_l _ (or_r _ (ap (λ (x : ℕ). has (neighbours_of from x) k) (sym (same-eq _ _ q)) ∙ and_r _ _ w.fact)))
        (λ q. or_r _ (some-any max_nodes _ w.at w.low (both (p.kept _ (same-ne _ _ q) ∙ and_l _ _ w.fact) (and_r _ _ w.fact))))))

none-touches : (from : List ℕ) (k : ℕ) → touches from 0 k ≡ false
unfolding touches
none-touches from k = refute _ (λ t. let w = any_some max_nodes _ t in no_tf (and_l _ _ w.fact) (has_0 _))

pub touching_all : {from : List ℕ} {set all left : ℕ} → Touching from set all left → left ≡ 0 → all ≡ set_of max_nodes (touches from set)
touching_all h z = set_ext max_nodes _ _ h.word (λ k b. simp (z, none-touches, false_or) at (h.whole k b))
