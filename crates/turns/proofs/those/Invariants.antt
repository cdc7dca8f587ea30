-- `turns::those` meets its contract. The invariant: what is found, and what is left and passes, is all of w that passes.
use mathlib.Core.Path.{◌≡◌}
use mathlib.Core.Bool.{Bool}
use Prim.Native.Nat.{ℕ, ◌^◌, ◌<◌}
use Rattle.nodes.specs.Limits.{max_nodes}
use Rattle.nodes.specs.Members.{members}
use Rattle.turns.proofs.Sift.{Sifting}
use Rattle.turns.proofs.those.Given as goal

abbrev pub invariant-loop-u : goal.invariant-loop-u
invariant-loop-u g l =
    (members l.u-iterator.left < 2 ^ max_nodes)
    × ((test : ℕ → Bool) → ((u : ℕ) (b : Bool) → goal.F-post g l.passes u b → b ≡ test u)
    → Sifting test (members l.w) (members l.found) (members l.u-iterator.left))
