-- A test that decides between two plain facts, which do not hold together: where it passes the first holds, where it fails the second.
use mathlib.Core.Path.{◌≡◌, sym, ◌∙◌}
use mathlib.Core.Bool.{Bool, true, false}
use mathlib.Core.Logic.{◌⊎◌, inl, inr, ⊎_elim}
use Prim.Native.Nat.{ℕ, ◌≤◌, ◌<◌}
use native.Mathlib.Omega.{arith}
use borrow.Author.Tests.{leb-true, leb-false, ltb-true, ltb-false, eqb-true, eqb-false}
use lib.Dec.{leb, ltb, eqb}
use Rattle.finite.specs.Truth.{◌&◌, ◌or◌, non, same, below}
use Rattle.finite.specs.Search.{least}
use Rattle.finite.proofs.Truth.{no_tf, bcase, refute, and_l, and_r, both, or_l, or_r, or_case, non-true, non-false, same-eq, same-ne, below-lt, below-le}
use Rattle.finite.proofs.Search.{least-fact, least-before, least_unique}

pub record Decides (b : Bool) (P Q : Type 0) : Type 0 where
  pub yes : b ≡ true → P
  pub no : b ≡ false → Q
  pub never : P → Q → ⊥

pub by {ℓ} : {A : Type ℓ} {b : Bool} {P Q : Type 0} → Decides b P Q → (P → A) → (Q → A) → A
by {b = b} d f g = bcase b (λ t. f (d.yes t)) (λ t. g (d.no t))

pub pass : {b : Bool} {P Q : Type 0} → Decides b P Q → P → b ≡ true
pass {b} d p = bcase b (λ t. t) (λ t. absurd (d.never p (d.no t)))

pub fail : {b : Bool} {P Q : Type 0} → Decides b P Q → Q → b ≡ false
fail {b} d q = refute b (λ t. d.never (d.yes t) q)

-- two tests that decide the same
pub agree : {a b : Bool} {P Q R S : Type 0} → Decides a P Q → Decides b R S → (P → R) → (Q → S) → a ≡ b
agree {a} d e f g = bcase a (λ t. t ∙ sym (pass e (f (d.yes t)))) (λ t. t ∙ sym (fail e (g (d.no t))))

-- ---- the tests and connectives

pub decide_below : (a b : ℕ) → Decides (below a b) (a < b) (b ≤ a)
decide_below a b = record { yes = below-lt a b; no = below-le a b; never = λ p q. omega arith }

pub decide_ltb : (a b : ℕ) → Decides (ltb a b) (a < b) (b ≤ a)
decide_ltb a b = record { yes = ltb-true a b; no = ltb-false a b; never = λ p q. omega arith }

pub decide_leb : (a b : ℕ) → Decides (leb a b) (a ≤ b) (b < a)
decide_leb a b = record { yes = leb-true a b; no = leb-false a b; never = λ p q. omega arith }

pub decide_same : (a b : ℕ) → Decides (same a b) (a ≡ b) (a ≡ b → ⊥)
decide_same a b = record { yes = same-eq a b; no = same-ne a b; never = λ p q. q p }

pub decide_eqb : (a b : ℕ) → Decides (eqb a b) (a ≡ b) (a ≡ b → ⊥)
decide_eqb a b = record { yes = eqb-true a b; no = eqb-false a b; never = λ p q. q p }

pub decide_non : {b : Bool} {P Q : Type 0} → Decides b P Q → Decides (non b) Q P
decide_non d = record { yes = λ t. d.no (non-true _ t); no = λ t. d.yes (non-false _ t); never = λ q p. d.never p q }

-- the second fact is that the first does not hold
pub decide_not : {b : Bool} {P Q : Type 0} → Decides b P Q → Decides b P (P → ⊥)
decide_not d = record { yes = d.yes; no = λ t p. d.never p (d.no t); never = λ p q. q p }

pub decide_and : {a b : Bool} {P Q R S : Type 0} → Decides a P Q → Decides b R S → Decides (a & b) (P × R) (Q ⊎ S)
decide_and d e = record {
  yes = λ t. (d.yes (and_l _ _ t), e.yes (and_r _ _ t));
  no = λ t. by d (λ p. by e (λ r. no_tf (both (pass d p) (pass e r)) t) inr) inl;
  never = λ p. ⊎_elim (d.never p.0) (e.never p.1);
}

pub decide_or : {a b : Bool} {P Q R S : Type 0} → Decides a P Q → Decides b R S → Decides (a or b) (P ⊎ R) (Q × S)
decide_or d e = record {
  yes = λ t. or_case _ _ t (λ x. inl (d.yes x)) (λ x. inr (e.yes x));
  no = λ t. (by d (λ p. no_tf (or_l _ (pass d p)) t) (λ q. q), by e (λ r. no_tf (or_r _ (pass e r)) t) (λ s. s));
  never = λ p q. ⊎_elim (λ x. d.never x q.0) (λ x. e.never x q.1) p;
}

-- ---- the least number that passes

module _ (n : ℕ) {p : ℕ → Bool} {P Q : ℕ → Type 0} (d : (v : ℕ) → Decides (p v) (P v) (Q v)) where
  -- v passes, and none before it
  pub least-is : (v : ℕ) → v < n → P v → ((u : ℕ) → u < v → Q u) → least n p ≡ v
  least-is v l x before = least_unique n p v (omega arith) (λ k. pass (d v) x) (λ u k. fail (d u) (before u k))

  pub least-none : ((v : ℕ) → v < n → Q v) → least n p ≡ n
  least-none h = least_unique n p n (omega arith) (λ l. absurd (omega arith)) (λ v l. fail (d v) (h v l))

  pub decide-least :
      Decides (below (least n p) n) ((least n p < n) × P (least n p) × ((u : ℕ) → u < least n p → Q u)) ((v : ℕ) → v < n → Q v)
  decide-least = record {
    yes = λ t. let l = below-lt _ _ t in (l, (d _).yes (least-fact n p l), λ u k. (d u).no (least-before n p u k));
    no = λ t v l. let k = below-le _ _ t in (d v).no (least-before n p v (omega arith));
    never = λ f q. (d _).never f.1 (q _ f.0);
  }
