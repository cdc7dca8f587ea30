-- The promise of `neighbours` determines its answer: any two outcomes that it allows are equal.
use mathlib.Core.Path.{◌≡◌}
use mathlib.Core.List.{List}
use Prim.Native.Nat.{ℕ}
use Rattle.nodes.specs.Members.{members}
use Rattle.nodes.proofs.Determined.{set_determined}
use Rattle.network.specs.Table.{neighbours_of}

pub neighbours_determined : (t : List ℕ) (v r s : ℕ) → members r ≡ neighbours_of t v → members s ≡ neighbours_of t v → r ≡ s
neighbours_determined t v = set_determined (neighbours_of t v)
