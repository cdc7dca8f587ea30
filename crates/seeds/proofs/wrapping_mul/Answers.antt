-- `seeds::wrapping_mul` meets its contract. The invariant: the sum and what is left of the product make the whole, modulo 2 ^ 32.
use Rattle.std.proofs.Common.{ℕ, ◌+◌, ◌*◌, ◌/◌, ◌%◌, ◌^◌, refl, ap, ◌∙◌, ap₂, arith}
use Rattle.seeds.proofs.Doubling.{doubling}
use Rattle.seeds.proofs.wrapping_mul.Goals as goal

pub loop-left-preserved : goal.loop-left-preserved
loop-left-preserved c = (
  ap₂ (λ (x y : ℕ). (x + y * (c.loop-left.left / 2)) % 2 ^ 32)
      (ap (λ (x : ℕ). (c.loop-left.sum + x) % 2 ^ 32) c.picked-sum.ensures) refl
      ∙ doubling (2 ^ 32) c.loop-left.sum c.loop-left.term c.loop-left.left ∙ c.loop-left.invariant.0,
  omega arith,
)
