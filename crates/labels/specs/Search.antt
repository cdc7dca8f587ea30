-- One step of the search for the choice: the best candidate so far, if there is one, and what the next node makes of it. Only the contract of a private
-- function cites it.
use Rattle.std.specs.Prelude.{Bool, true, false, ℕ, Option, Some, None}
use Rattle.finite.specs.Truth.{◌&◌, below}
use Rattle.labels.specs.declared.Best.{Best}

-- v where it passes and its degree is below the best one's, else the best so far
unfoldable pub better : (ℕ → ℕ) → (ℕ → Bool) → ℕ → Option Best → Option Best
better degree p v None = elim (p v) [ true ↦ Some (record { degree = degree v; node = v }) | false ↦ None ]
better degree p v (Some best) =
    elim (below (degree v) best.degree & p v) [ true ↦ Some (record { degree = degree v; node = v }) | false ↦ Some best ]
