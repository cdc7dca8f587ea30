-- How many turns there are does not depend on the width that they are counted at, if it has room for the nodes.
use mathlib.Core.Path.{◌≡◌, ◌∙◌}
use mathlib.Core.Bool.{Bool, true}
use Prim.Native.Nat.{ℕ, ◌≤◌, ◌<◌}
use native.Mathlib.Omega.{arith}
use Rattle.finite.specs.Truth.{◌&◌, below}
use Rattle.finite.specs.Sum.{sum_to, count}
use Rattle.finite.proofs.Truth.{refute, and_l, and_r}
use Rattle.finite.proofs.Sum.{sum-cut, sum_cong, sum-zero, count_cut, count_none}
use Rattle.graph.specs.Network.{Network}
use Rattle.turns.specs.Turns.{turns_that}

module _ (m n : ℕ) (small : m ≤ n) (edge : ℕ → ℕ → Bool) (net : Network m edge) (test : ℕ → ℕ → ℕ → Bool) where
  -- the turn from a over b to c is one, and passes
  abbrev passes : ℕ → ℕ → ℕ → Bool
  passes b a c = below a c & edge b a & edge b c & test a b c

  link : (b a c : ℕ) → passes b a c ≡ true → edge b a ≡ true
  link b a c t = and_l _ _ (and_r _ _ t)

  -- no end of a link is m or more
  no_middle : (b a c : ℕ) → m ≤ b → passes b a c ≡ true → ⊥
  no_middle b a c l t = let i = net.inside a b (net.undirected b a (link b a c t)) in omega arith

  no-first : (b a c : ℕ) → m ≤ a → passes b a c ≡ true → ⊥
  no-first b a c l t = let i = net.inside b a (link b a c t) in omega arith

  last-low : (b a c : ℕ) → passes b a c ≡ true → c < m
  last-low b a c t = net.inside b c (and_l _ _ (and_r _ _ (and_r _ _ t)))

  pub turns_width : turns_that n edge test ≡ turns_that m edge test
  unfolding turns_that
  turns_width =
      sum-cut m n (λ b. sum_to n (λ a. count n (passes b a))) small (λ b l.
      sum-zero n (λ a. count n (passes b a)) (λ a _. count_none n (passes b a) (λ c _. refute _ (no_middle b a c l))))
      ∙ sum_cong m _ _ (λ b _.
      sum-cut m n (λ a. count n (passes b a)) small (λ a l. count_none n (passes b a) (λ c _. refute _ (no-first b a c l)))
      ∙ sum_cong m _ _ (λ a _. count_cut m n (passes b a) small (last-low b a)))
