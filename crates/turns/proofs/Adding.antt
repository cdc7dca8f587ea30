-- The loop that adds up d(d-1)/2 over the nodes, d being what is counted at each: the sum over the nodes before v, and its bound.
use mathlib.Core.Path.{◌≡◌, sym, ◌∙◌, ap, ap₂}
use mathlib.Core.Bool.{Bool}
use Prim.Native.Nat.{ℕ, ◌+◌, ◌-◌, ◌*◌, ◌≤◌}
use native.Mathlib.Nat.{mul-le-mul}
use native.Mathlib.Numerals.{add-one}
use native.Mathlib.Omega.{arith}
use Rattle.finite.specs.Sum.{sum_to, count}
use Rattle.finite.specs.Sets.{has, set_of}
use Rattle.finite.proofs.Sum.{sum-none, sum_more}
use Rattle.finite.proofs.Pairs.{choose_two}
use Rattle.nodes.specs.Limits.{max_nodes}
use Rattle.nodes.proofs.Words.{size-set_of}

-- `counts v d` says that d may be counted at v
pub record Adding (counts : ℕ → ℕ → Type 0) (sum v : ℕ) : Type 0 where
  pub sums : (links : ℕ → ℕ) → ((u d : ℕ) → counts u d → d ≡ links u) → sum ≡ sum_to v (λ u. choose_two (links u))
  pub bound : sum ≤ max_nodes * max_nodes * v

pub adding_none : (counts : ℕ → ℕ → Type 0) → Adding counts 0 0
adding_none counts = record { sums = λ links h. sym (sum-none _); bound = omega arith }

pub adding_more : {counts : ℕ → ℕ → Type 0} {sum v d r : ℕ} → Adding counts sum v → counts v d → d ≤ max_nodes → r ≡ choose_two d
    → Adding counts (sum + r) (v + 1)
adding_more {v = v} {d = d} q k l f =
    let b : d * (d - 1) ≤ max_nodes * max_nodes = mul-le-mul {m₂ = max_nodes} l (omega arith) in
    let o = q.bound in
    record {
      sums = λ links h. rw (add-one, sum_more) (ap₂ ◌+◌ (q.sums links h) (f ∙ ap choose_two (h v d k)));
      bound = omega arith;
    }

-- the size of a set's word, where the links are held in one
pub size_of : (p : ℕ → Bool) {w d : ℕ} → w ≡ set_of max_nodes p → d ≡ count max_nodes (has w) → d ≡ count max_nodes p
size_of p e f = f ∙ rw e (size-set_of max_nodes p)
