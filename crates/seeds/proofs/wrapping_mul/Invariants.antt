-- `seeds::wrapping_mul` meets its contract. The invariant: the sum and what is left of the product make the whole, modulo 2 ^ 32.
use Rattle.std.proofs.Common.{◌≡◌, ◌+◌, ◌*◌, ◌%◌, ◌^◌, ◌<◌}
use Rattle.seeds.proofs.wrapping_mul.Given as goal

abbrev pub invariant-loop-left : goal.invariant-loop-left
invariant-loop-left l = ((l.sum + l.term * l.left) % 2 ^ 32 ≡ l.a * l.b % 2 ^ 32) × (l.sum < 2 ^ 32)

abbrev pub decreases-loop-left : goal.decreases-loop-left
decreases-loop-left l = l.left
