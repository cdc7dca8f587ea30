-- The promise of `route` leaves one outcome: any two that it allows are equal, answer and buffer.
use mathlib.Core.Path.{◌≡◌}
use mathlib.Core.List.{List}
use Prim.Native.Nat.{ℕ}
use Rattle.results.specs.Written.{Writes, Written}
use Rattle.results.proofs.Determined.{writes_determined}
use Rattle.route.specs.Route.{route_fault, route_bytes}

pub route_determined : (b : List ℕ) (s t : ℕ) {before : List ℕ} {x y : Written} {l m : List ℕ}
    → Writes (route_fault b s t) (route_bytes b s t) before x l → Writes (route_fault b s t) (route_bytes b s t) before y m → (x ≡ y) × (l ≡ m)
route_determined b s t = writes_determined
