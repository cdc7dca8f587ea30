-- The lowest number below n that passes a test: found, and not there.
use Rattle.std.specs.Prelude.{Option, Some, None, MatchOption}
use mathlib.Core.Path.{◌≡◌, refl, sym, ◌∙◌}
use mathlib.Core.Bool.{Bool, true, false}
use Prim.Native.Nat.{ℕ, ◌≤◌, ◌<◌}
use native.Mathlib.Omega.{arith}
use Rattle.finite.specs.Truth.{below}
use Rattle.finite.specs.Search.{least}
use Rattle.finite.specs.Lowest.{lowest}
use Rattle.finite.proofs.Search.{least_unique}
use Rattle.finite.proofs.Truth.{bcase, lt-below, le_below, below-lt, below-le}
use Rattle.finite.proofs.Decide.{Decides, least-is, least-none}

module _ (n : ℕ) (p : ℕ → Bool) where
  pub lowest-found : {v : ℕ} → least n p ≡ v → v < n → lowest n p ≡ Some v
  unfolding lowest
  lowest-found e l = rw (lt-below {a = least n p} {b = n} (omega arith), e, lowest)

  pub lowest-none : n ≤ least n p → lowest n p ≡ None
  unfolding lowest
  lowest-none l = rw (le_below {a = least n p} {b = n} l, lowest)

  -- and back
  pub found-lowest : {v : ℕ} → lowest n p ≡ Some v → (least n p ≡ v) × (v < n)
  found-lowest {v} h =
      bcase (below (least n p) n)
      (λ t. let l = below-lt _ _ t in let e : ◌≡◌ {A = Option ℕ} (Some (least n p)) (Some v) = sym (lowest-found refl l) ∙ h in let q : least n p ≡ v = cc in (q, omega arith))
      (λ f. absurd (let e : ◌≡◌ {A = Option ℕ} None (Some v) = sym (lowest-none (below-le _ _ f)) ∙ h in let z : ◌≡◌ {A = ℕ} 0 1 = cc in omega arith))

  pub none-lowest : lowest n p ≡ None → n ≤ least n p
  none-lowest h =
      bcase (below (least n p) n)
      (λ t. absurd (let e : ◌≡◌ {A = Option ℕ} (Some (least n p)) None = sym (lowest-found refl (below-lt _ _ t)) ∙ h in let z : ◌≡◌ {A = ℕ} 0 1 = cc in omega arith))
      (λ f. below-le _ _ f)

-- what a search of the library from 0 to n finds
pub match-lowest : (n : ℕ) (p : ℕ → Bool) (r : Option ℕ)
    → MatchOption r ((k : ℕ) → 0 ≤ k → k < n → p k ≡ false) (λ v. (0 ≤ v) × (v < n) × (p v ≡ true) × ((k : ℕ) → 0 ≤ k → k < v → p k ≡ false))
    → r ≡ lowest n p
match-lowest n p None h = sym (lowest-none n p (let e = least_unique n p n (omega arith) (λ l. absurd (omega arith)) (λ v l. h v (omega arith) l) in omega arith))
match-lowest n p (Some v) h =
    sym (lowest-found n p (least_unique n p v (omega arith) (λ l. h.2) (λ k l. h.3 k (omega arith) l)) h.1)

-- where each number is decided
module _ (n : ℕ) {p : ℕ → Bool} {P Q : ℕ → Type 0} (d : (v : ℕ) → Decides (p v) (P v) (Q v)) where
  pub lowest-is : (v : ℕ) → v < n → P v → ((u : ℕ) → u < v → Q u) → lowest n p ≡ Some v
  lowest-is v l x before = lowest-found n p (least-is n d v l x before) l

  pub lowest-not : ((v : ℕ) → v < n → Q v) → lowest n p ≡ None
  lowest-not h = lowest-none n p (let e = least-none n d h in omega arith)
