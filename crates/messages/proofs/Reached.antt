-- Every record that a start and moves lead to is in a state.
use mathlib.Core.Bool.{Bool}
use mathlib.Core.List.{List}
use Prim.Native.Nat.{ℕ}
use Rattle.claims.specs.Claims.{Progress}
use Rattle.hops.specs.Tabled.{Tabled}
use Rattle.messages.specs.declared.Record.{Record}
use Rattle.messages.specs.Runs.{Listed, Reached, fresh, move}
use Rattle.messages.proofs.Moves.{step_case}
use Rattle.messages.proofs.State.{State, none-taken, start-state}
use Rattle.messages.proofs.Onward.{case_state}

module _ {n : ℕ} {edge : ℕ → ℕ → Bool} {labels free falling list : List ℕ} (tabled : Tabled n edge labels free falling) (listed : Listed n list) where
  pub reached_state : {r : Record} → Reached n labels free falling list r → (s : Progress) × State n edge labels free falling list r s
  reached_state fresh = (none-taken, start-state tabled listed)
  reached_state (move {r = r} m run) = case_state tabled listed (reached_state run).1 m (step_case r m)
