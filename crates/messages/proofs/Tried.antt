-- A move that is tried in a state: which messages are there, who holds the channel that one wants, and that while any is undelivered some move succeeds.
use mathlib.Core.Path.{◌≡◌, refl, sym, ◌∙◌, ap}
use mathlib.Core.Bool.{Bool, true, false}
use mathlib.Core.List.{List}
use Prim.Native.Nat.{ℕ, suc, ◌-◌, ◌≤◌, ◌<◌}
use native.Mathlib.Omega.{arith}
use Rattle.finite.specs.Truth.{non}
use Rattle.finite.specs.Search.{Some}
use Rattle.finite.proofs.Truth.{no_tf, eq-same}
use Rattle.lawful.specs.Turn.{label_in}
use Rattle.claims.specs.Claims.{Progress, holds, wanted, CanStep, can-take, can_finish}
use Rattle.claims.proofs.Waiting.{some-can-step}
use Rattle.hops.specs.Tabled.{Tabled}
use Rattle.messages.specs.declared.Record.{Record}
use Rattle.messages.specs.declared.Stepped.{Stepped}
use Rattle.messages.specs.Sizes.{max_channels}
use Rattle.messages.specs.Step.{want, is_delivered, holder, step_of}
use Rattle.messages.specs.Runs.{Listed, messages_in, itinerary_in, successful}
use Rattle.messages.specs.Tells.{keeps}
use Rattle.messages.specs.Ready.{messages_of}
use Rattle.messages.proofs.Moves.{Case, unknown, already, arrives, astray, waits, moves, step_case}
use Rattle.messages.proofs.Channels.{channel_rank}
use Rattle.messages.proofs.State.{State, few-messages}
use Rattle.messages.proofs.Next.{all-taken, more-to-take, next-wanted}
use Rattle.messages.proofs.Total.{channels-rising}

module _ {n : ℕ} {edge : ℕ → ℕ → Bool} {labels free falling list : List ℕ} (tabled : Tabled n edge labels free falling) (listed : Listed n list)
    {r : Record} {s : Progress} (state : State n edge labels free falling list r s) where
  abbrev k : ℕ
  k = messages_in list

  abbrev itinerary : ℕ → List ℕ
  itinerary = itinerary_in n edge labels list

  module _ (m : ℕ) where
    pub known : m < messages_of r → m < k
    known l = let e = state.kept.messages in omega arith

    pub unknown_high : messages_of r ≤ m → k ≤ m
    unknown_high l = let e = state.kept.messages in let f = few-messages tabled listed in omega arith

    pub not_done : m < k → is_delivered r m ≡ false → s.done m ≡ false
    not_done l u = sym (state.says.done m l) ∙ u

    -- a next channel that is held has one of the messages for its holder, and by the claims too that one holds what m wants
    pub holder-low : (holder r (want r m) ≡ 0 → ⊥) → holder r (want r m) - 1 < k
    holder-low h = let o = state.says.owners (want r m) in omega arith

    pub holder-holds : m < k → want r m < max_channels → (b : ℕ) → b < k → holder r (want r m) ≡ suc b → holds itinerary keeps s b (wanted itinerary s m) ≡ true
    holder-holds low d b l e =
        sym (ap (holds itinerary keeps s b) (next-wanted tabled listed state m low d)) ∙ sym (state.says.held (want r m) b l) ∙ eq-same e

    -- what the claims allow, the machine does
    can_succeed : m < k → {x : Stepped} → Case r m x → CanStep k itinerary keeps s m → successful x.answer ≡ true
    can_succeed low (unknown t) c = let h = unknown_high t in absurd (omega arith)
    can_succeed low (already l u) (can-take f b h) = no_tf (sym (state.says.done m low) ∙ u) f
    can_succeed low (already l u) (can_finish f e) = no_tf (sym (state.says.done m low) ∙ u) f
    can_succeed low (arrives l u e) c = refl
    can_succeed low (astray l u d e) c = absurd (e (all-taken tabled listed state m low d).1)
    can_succeed low (waits l u d h) (can-take f b none) = let i = holder-low h in no_tf (holder-holds low d _ i (omega arith)) (none _ i)
    can_succeed low (waits l u d h) (can_finish f e) = let b = more-to-take tabled listed state m low d in absurd (omega arith)
    can_succeed low (moves l u d h) c = refl

  -- while any is undelivered some message can move
  pub some_succeeds : Some k (λ m. non (is_delivered r m)) → Some k (λ m. successful (step_of r m).answer)
  some_succeeds x =
      let undone : Some k (λ m. non (s.done m)) = record { at = x.at; low = x.low; fact = ap non (sym (state.says.done x.at x.low)) ∙ x.fact } in
      let c = some-can-step k itinerary keeps (channel_rank n (label_in labels)) s state.says.lawful (channels-rising tabled listed) undone in
      record { at = c.at; low = c.low; fact = can_succeed c.at c.low (step_case r c.at) c.can }
