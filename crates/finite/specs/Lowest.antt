-- The lowest number that passes a test, where there is one.
use Rattle.std.specs.Prelude.{Bool, true, false, ℕ, Option, Some, None}
use Rattle.finite.specs.Truth.{below}
use Rattle.finite.specs.Search.{least}

-- the lowest number below n that passes p
unfoldable pub lowest : ℕ → (ℕ → Bool) → Option ℕ
lowest n p = elim (below (least n p) n) [ true ↦ Some (least n p) | false ↦ None ]
