-- How many turns a network has, for any links and labels. RULES 3.3: "the sum over all nodes of d(d-1)/2". W is the same sum over the neighbours with higher
-- labels, and the permitted turns are the others.
use mathlib.Core.Path.{◌≡◌, refl, sym, ◌∙◌}
use mathlib.Core.Bool.{Bool, true, false}
use Prim.Native.Nat.{ℕ, ◌+◌}
use Rattle.finite.specs.Truth.{◌&◌, non}
use Rattle.finite.specs.Sum.{sum_to, when, count}
use Rattle.finite.proofs.Truth.{true_and, false_and}
use Rattle.finite.proofs.Sum.{sum-add}
use Rattle.finite.proofs.Pairs.{choose_two, pairs_formula}
use Rattle.lawful.specs.Turn.{rises, prohibited}
use Rattle.turns.specs.Turns.{turns_that, all_turns, prohibited_turns}

pub total_formula : (n : ℕ) (edge : ℕ → ℕ → Bool) → all_turns n edge ≡ sum_to n (λ b. choose_two (count n (edge b)))
unfolding turns_that
total_formula n edge = simp (true_and, pairs_formula)

both-rise : (o a b c d : Bool) → o & a & b & c & d ≡ o & (a & c) & (b & d) & true
unfolding ◌&◌
both-rise false a b c d = refl
both-rise true false b c d = refl
both-rise true true false c d = sym (false_and c)
both-rise true true true c d = simp true_and

-- a turn is prohibited where both its links rise from the middle
pub prohibited-rising : (n : ℕ) (edge : ℕ → ℕ → Bool) (label : ℕ → ℕ) → prohibited_turns n edge label ≡ all_turns n (rises edge label)
unfolding turns_that prohibited rises
prohibited-rising n edge label = simp both-rise

pub prohibited_formula : (n : ℕ) (edge : ℕ → ℕ → Bool) (label : ℕ → ℕ)
    → prohibited_turns n edge label ≡ sum_to n (λ b. choose_two (count n (rises edge label b)))
prohibited_formula n edge label = prohibited-rising n edge label ∙ total_formula n (rises edge label)

pass_or_fail : (o a b t : Bool) → when (o & a & b & t) 1 + when (o & a & b & non t) 1 ≡ when (o & a & b & true) 1
unfolding ◌&◌ non
pass_or_fail false a b t = refl
pass_or_fail true false b t = refl
pass_or_fail true true false t = refl
pass_or_fail true true true true = refl
pass_or_fail true true true false = refl

-- the turns that pass a test and those that fail it, such as the prohibited and the permitted ones, add up to T
pub turns_split : (n : ℕ) (edge : ℕ → ℕ → Bool) (test : ℕ → ℕ → ℕ → Bool)
    → turns_that n edge test + turns_that n edge (λ a b c. non (test a b c)) ≡ all_turns n edge
unfolding turns_that
turns_split n edge test = simp (← sum-add, pass_or_fail)
