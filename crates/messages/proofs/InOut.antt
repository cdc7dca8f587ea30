-- RULES 8.1: "at any time at most one message holds a channel": of the messages from one node at most one is in the network, and of those to one node at most one
-- is on its way out.
use mathlib.Core.Path.{◌≡◌, refl, sym, ◌∙◌, ap}
use mathlib.Core.Bool.{Bool, true}
use mathlib.Core.List.{List}
use Prim.Native.Nat.{ℕ, suc, ◌<◌}
use native.Mathlib.Nat.{le_of_eq}
use native.Mathlib.Omega.{arith}
use lib.ListN.{length, get_or}
use Rattle.finite.specs.Truth.{below}
use Rattle.finite.proofs.Truth.{bcase, below-lt, below-le}
use Rattle.claims.specs.Claims.{Progress, holds}
use Rattle.claims.proofs.Holding.{taken-holds}
use Rattle.hops.specs.Tabled.{Tabled}
use Rattle.messages.specs.Channels.{injection, consumption, all_taken}
use Rattle.messages.specs.declared.Record.{Record}
use Rattle.messages.specs.Fresh.{source_in, target_in}
use Rattle.messages.specs.Runs.{Listed, messages_in, route_in, itinerary_in, Reached}
use Rattle.messages.specs.Tells.{keeps, Entered, Leaving}
use Rattle.messages.proofs.Channels.{channels_home}
use Rattle.messages.proofs.State.{State}
use Rattle.messages.proofs.Total.{itinerary-length}
use Rattle.messages.proofs.Next.{all-taken}
use Rattle.messages.proofs.Tried.{not_done}
use Rattle.messages.proofs.Reached.{reached_state}
use Rattle.messages.proofs.Answers.{one_message}

module _ {n : ℕ} {edge : ℕ → ℕ → Bool} {labels free falling list : List ℕ} (tabled : Tabled n edge labels free falling) (listed : Listed n list)
    {r : Record} (run : Reached n labels free falling list r) where
  abbrev k : ℕ
  k = messages_in list

  abbrev itinerary : ℕ → List ℕ
  itinerary = itinerary_in n edge labels list

  abbrev so_far : Progress
  so_far = (reached_state tabled listed run).0

  state : State n edge labels free falling list r so_far
  state = (reached_state tabled listed run).1

  in_holds : (m : ℕ) → m < k → Entered list r m → holds itinerary keeps so_far m (injection (source_in list m)) ≡ true
  unfolding itinerary_in
  in_holds m low (u, went) = taken-holds itinerary keeps so_far m 0 (not_done tabled listed state m low u) some refl
    where
      some : 0 < so_far.taken m
      some =
          bcase (below 0 (so_far.taken m)) (λ t. below-lt _ _ t)
          (λ t.
          let none : so_far.taken m ≡ 0 = let h = below-le _ _ t in omega arith in
          absurd (went (state.says.wants m low ∙ ap (λ (j : ℕ). get_or (itinerary m) j all_taken) none)))

  pub one_in : (a b : ℕ) → a < k → b < k → source_in list a ≡ source_in list b → Entered list r a → Entered list r b → a ≡ b
  one_in a b i j e x y =
      one_message state.says a b (injection (source_in list a)) i j (in_holds a i x)
      (ap (λ (v : ℕ). holds itinerary keeps so_far b (injection v)) e ∙ in_holds b j y)

  out_holds : (m : ℕ) → m < k → Leaving r m → holds itinerary keeps so_far m (consumption (target_in list m)) ≡ true
  unfolding itinerary_in
  out_holds m low (u, all) =
      let l = route_in n edge labels list m in
      let t = (all-taken tabled listed state m low (le_of_eq (sym all))).0 in
      let size = itinerary-length tabled listed m in
      sym (ap (holds itinerary keeps so_far m) (channels_home (target_in list m) (source_in list m) l 0))
      ∙ taken-holds itinerary keeps so_far m (suc (length l)) (not_done tabled listed state m low u) (omega arith) refl

  pub one_out : (a b : ℕ) → a < k → b < k → target_in list a ≡ target_in list b → Leaving r a → Leaving r b → a ≡ b
  one_out a b i j e x y =
      one_message state.says a b (consumption (target_in list a)) i j (out_holds a i x)
      (ap (λ (v : ℕ). holds itinerary keeps so_far b (consumption v)) e ∙ out_holds b j y)
