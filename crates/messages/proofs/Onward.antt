-- A move leads from a state to a state.
use mathlib.Core.Path.{sym}
use mathlib.Core.Bool.{Bool}
use mathlib.Core.List.{List}
use Prim.Native.Nat.{ℕ}
use native.Mathlib.Nat.{le_of_eq}
use Rattle.claims.specs.Claims.{Progress, taking, finishing}
use Rattle.hops.specs.Tabled.{Tabled}
use Rattle.messages.specs.declared.Record.{Record}
use Rattle.messages.specs.declared.Stepped.{Stepped}
use Rattle.messages.specs.Runs.{Listed}
use Rattle.messages.proofs.Moves.{Case, unknown, already, arrives, astray, waits, moves}
use Rattle.messages.proofs.State.{State}
use Rattle.messages.proofs.Next.{all-taken}
use Rattle.messages.proofs.Tried.{known, not_done}
use Rattle.messages.proofs.After.{moved-state, arrived-state}

module _ {n : ℕ} {edge : ℕ → ℕ → Bool} {labels free falling list : List ℕ} (tabled : Tabled n edge labels free falling) (listed : Listed n list) where
  pub case_state : {r : Record} {s : Progress} → State n edge labels free falling list r s → (m : ℕ) {x : Stepped} → Case r m x
      → (p : Progress) × State n edge labels free falling list x.«record» p
  case_state {s = s} state m (unknown t) = (s, state)
  case_state {s = s} state m (already l u) = (s, state)
  case_state {s = s} state m (arrives l u e) =
      let low = known tabled listed state m l in
      (finishing s m, arrived-state tabled listed state m low (not_done tabled listed state m low u) (all-taken tabled listed state m low (le_of_eq (sym e))).0)
  case_state {s = s} state m (astray l u d e) = (s, state)
  case_state {s = s} state m (waits l u d h) = (s, state)
  case_state {s = s} state m (moves l u d h) =
      let low = known tabled listed state m l in (taking s m, moved-state tabled listed state m low (not_done tabled listed state m low u) d h)
