-- A list filled from the front, one store a turn: the places before i have the values of f, the others are as they were.
use mathlib.Core.Path.{◌≡◌, refl, ◌∙◌}
use mathlib.Core.List.{List}
use Prim.Native.Nat.{ℕ, ◌+◌, ◌≤◌, ◌<◌}
use native.Mathlib.Nat.{not-suc-le-zero}
use native.Mathlib.Omega.{arith}
use lib.ListN.{length, get_or, set, length-set}
use lib.Seq.{get_or-set_same, get_or-set_other}
use Rattle.finite.specs.Truth.{same, below}
use Rattle.finite.specs.Lists.{tabulate}
use Rattle.finite.proofs.Truth.{bcase, same-eq, same-ne, below-lt, below-le}
use Rattle.finite.proofs.Lists.{tabulate_ext}

pub record Filling (f : ℕ → ℕ) (old new : List ℕ) (i : ℕ) : Type 0 where
  pub size : length new ≡ length old
  pub passed : (j : ℕ) → j < i → get_or new j 0 ≡ f j
  pub ahead : (j : ℕ) → i ≤ j → get_or new j 0 ≡ get_or old j 0

pub filling_none : (f : ℕ → ℕ) (old : List ℕ) → Filling f old old 0
filling_none f old = record { size = refl; passed = λ j l. absurd (not-suc-le-zero l); ahead = λ j l. refl }

pub filling_more : {f : ℕ → ℕ} {old new : List ℕ} {i : ℕ} (x : ℕ) → Filling f old new i → i < length old → x ≡ f i → Filling f old (set new i x) (i + 1)
filling_more {f} {old} {new} {i} x s l e = record {
  size = length-set new i x ∙ s.size;
  passed = λ j h.
      bcase (same j i) (λ q. rw (same-eq j i q) (get_or-set_same new i x 0 (rw s.size l) ∙ e))
      (λ q. let d = same-ne j i q in get_or-set_other new i j x 0 d ∙ s.passed j (omega arith));
  ahead = λ j h. get_or-set_other new i j x 0 (λ q. omega arith) ∙ s.ahead j (omega arith);
}

-- where the rest has the values of f already, all have
pub filling_rest : {f : ℕ → ℕ} {old new : List ℕ} {i : ℕ} (n : ℕ) → Filling f old new i → length old ≡ n → ((j : ℕ) → i ≤ j → j < n → get_or old j 0 ≡ f j) → new ≡ tabulate n f
filling_rest {f} {old} {new} {i} n s e rest =
    tabulate_ext n f 0 new (s.size ∙ e) (λ j h. bcase (below j i) (λ t. s.passed j (below-lt _ _ t)) (λ t. let l = below-le _ _ t in s.ahead j l ∙ rest j l h))

pub filling_all : {f : ℕ → ℕ} {old new : List ℕ} {i : ℕ} (n : ℕ) → Filling f old new i → length old ≡ n → n ≤ i → new ≡ tabulate n f
filling_all n s e l = filling_rest n s e (λ j h k. absurd (omega arith))
