-- The choice is the least candidate: least degree, then lowest number; there is one such node.
use mathlib.Core.Path.{◌≡◌}
use mathlib.Core.Bool.{Bool, true, false}
use Prim.Native.Nat.{ℕ, suc, ◌≤◌, suc-le-suc}
use Rattle.finite.specs.Search.{Some}
use Rattle.finite.proofs.Truth.{and_l, and_r, non-true}
use Rattle.finite.proofs.Search.{least_by-least, least_by-le, least-by_unique}
use Rattle.graph.specs.Network.{degree}
use Rattle.graph.specs.Reach.{cut}
use Rattle.graph.proofs.Remaining.{degree-le}
use Rattle.rule.specs.Candidate.{candidate, choice, Chosen}

pub candidate_in : (n : ℕ) (edge : ℕ → ℕ → Bool) (R : ℕ → Bool) (v : ℕ) → candidate n edge R v ≡ true → R v ≡ true
unfolding candidate
candidate_in n edge R v h = and_l _ _ h

pub candidate-uncut : (n : ℕ) (edge : ℕ → ℕ → Bool) (R : ℕ → Bool) (v : ℕ) → candidate n edge R v ≡ true → cut n edge R v ≡ false
unfolding candidate
candidate-uncut n edge R v h = non-true _ (and_r _ _ (and_r _ _ h))

module _ (n : ℕ) (edge : ℕ → ℕ → Bool) (R : ℕ → Bool) where
  pub choice-chosen : Some n (candidate n edge R) → Chosen n edge R (choice n edge R)
  unfolding choice
  choice-chosen s = least_by-least n (degree n edge R) (candidate n edge R) (suc n) (λ v l. suc-le-suc (degree-le n edge R v)) s

  pub choice-le : choice n edge R ≤ n
  unfolding choice
  choice-le = least_by-le n (degree n edge R) (candidate n edge R) (suc n)

  pub chosen_unique : (u v : ℕ) → Chosen n edge R u → Chosen n edge R v → u ≡ v
  chosen_unique = least-by_unique n (degree n edge R) (candidate n edge R)
