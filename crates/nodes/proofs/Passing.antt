-- A loop over the members of a set passes the lowest one: it was left, it is left no more, and every other is as it was.
use mathlib.Core.Path.{◌≡◌, refl, sym, ◌∙◌, ap, subst}
use mathlib.Core.Bool.{true, false}
use Prim.Native.Nat.{ℕ, ◌^◌, ◌<◌}
use Rattle.std.specs.Prelude.{Option, Some}
use Rattle.finite.specs.Sets.{has, without}
use Rattle.finite.proofs.Truth.{iff, refute}
use Rattle.finite.proofs.Sets.{has-lt, without_in, without-ne, in_without}
use Rattle.nodes.specs.Limits.{max_nodes}
use Rattle.nodes.proofs.Words.{has_all, lowest_in, next-less, word_lt}
use Rattle.nodes.specs.InOrder.{PassesLowest}

pub record Pass (left v next : ℕ) : Type 0 where
  pub here : has left v ≡ true
  pub node : v < max_nodes
  pub gone : has next v ≡ false
  pub inside : (k : ℕ) → has next k ≡ true → has left k ≡ true
  pub kept : (k : ℕ) → (k ≡ v → ⊥) → has next k ≡ has left k
  pub word : next < 2 ^ max_nodes
  pub less : next < left

-- from a step that gives a member
pub pass : {left v next : ℕ} {r : Option ℕ} → left < 2 ^ max_nodes → PassesLowest left r next → r ≡ Some v → Pass left v next
pass {left} {v} {next} l step given = record {
  here = here;
  node = has-lt max_nodes left v l here;
  gone = at v ∙ refute _ (λ t. without-ne (has left) v v t refl);
  inside = λ k t. without_in (has left) v k (sym (at k) ∙ t);
  kept = λ k d. at k ∙ iff _ _ (without_in (has left) v k) (λ t. in_without (has left) t (λ e. d (sym e)));
  word = word_lt max_nodes _ s.2;
  less = next-less max_nodes l s.0 s.1 s.2;
}
  where
    s : PassesLowest left (Some v) next
    s = subst (λ (o : Option ℕ). PassesLowest left o next) given step

    here : has left v ≡ true
    here = ap (has left) s.1 ∙ lowest_in max_nodes left l s.0

    at : (k : ℕ) → has next k ≡ without (has left) v k
    at k = ap (λ (x : ℕ). has x k) s.2 ∙ has_all max_nodes (without (has left) v) (λ u t. has-lt max_nodes left u l (without_in (has left) v u t)) k
