-- Pairs of which only the front is held: more than the most is enough for the verdict.
use mathlib.Core.Path.{◌≡◌, sym, ◌∙◌, ap}
use mathlib.Core.List.{List}
use mathlib.Core.Logic.{inr}
use Prim.Native.Nat.{ℕ, ◌*◌, ◌<◌}
use native.Mathlib.Omega.{arith}
use lib.ListN.{length, take}
use lib.Seq.{take_all, length-take-le}
use Rattle.finite.specs.Truth.{below}
use Rattle.finite.proofs.Truth.{bcase, below-lt, below-le}
use Rattle.finite.proofs.Decide.{by}
use Rattle.nodes.specs.Limits.{max_links}
use Rattle.cabling.specs.Cabling.{cabled, Good}
use Rattle.cabling.specs.Faults.{fault_of}
use Rattle.cabling.specs.Verdicts.{means_count, means_shape}
use Rattle.cabling.proofs.Tests.{decide_counted}
use Rattle.cabling.proofs.Meaning.{fault_means}

-- of pairs that are too long nothing else counts
too_long : (n : ℕ) (p q : List ℕ) → 2 * max_links < length p → 2 * max_links < length q → fault_of (cabled n p) ≡ fault_of (cabled n q)
too_long n p q k l =
    by (decide_counted n)
    (λ c. (fault_means (cabled n p) _).1 (means_shape c (inr k)) ∙ sym ((fault_means (cabled n q) _).1 (means_shape c (inr l))))
    (λ c. (fault_means (cabled n p) _).1 (means_count c) ∙ sym ((fault_means (cabled n q) _).1 (means_count c)))

-- the first k bytes, k above the most
module _ (n : ℕ) (pairs : List ℕ) (k : ℕ) (more : 2 * max_links < k) where
  pub fault-held : fault_of (cabled n (take k pairs)) ≡ fault_of (cabled n pairs)
  fault-held =
      bcase (below k (length pairs))
      (λ t. let l = below-lt _ _ t in let e = length-take-le k pairs (omega arith) in too_long n _ _ (omega arith) (omega arith))
      (λ t. ap (λ (x : List ℕ). fault_of (cabled n x)) (take_all k pairs (below-le _ _ t)))

  -- where they are good, they are all
  pub good-held : Good (cabled n (take k pairs)) → take k pairs ≡ pairs
  good-held g =
      bcase (below k (length pairs))
      (λ t. let l = below-lt _ _ t in let e = length-take-le k pairs (omega arith) in let s = g.short in absurd (omega arith))
      (λ t. take_all k pairs (below-le _ _ t))
