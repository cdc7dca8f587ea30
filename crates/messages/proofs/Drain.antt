-- Demand 3, RULES 2.3: "In whichever order moves are tried, while a message is undelivered some message can move." "Successful moves never exceed the sum",
-- "They reach that sum exactly when every message is delivered, and then every channel is free."
use mathlib.Core.Path.{◌≡◌, refl, sym, ◌∙◌, ap}
use mathlib.Core.Bool.{Bool, true, false}
use mathlib.Core.List.{List}
use mathlib.Core.Logic.{◌↔◌, ⊎_elim}
use Prim.Native.Nat.{ℕ, zero, suc, ◌+◌, ◌*◌, ◌-◌, ◌≤◌, ◌<◌}
use native.Mathlib.Omega.{arith}
use Rattle.finite.specs.Truth.{non, same, below}
use Rattle.finite.specs.Search.{Some}
use Rattle.finite.proofs.Truth.{no_tf, bcase, refute, non-false, same-eq, same-ne, eq-same, below-lt, below-le}
use Rattle.finite.proofs.Sum.{when_true, when_false}
use Rattle.finite.proofs.Search.{find}
use Rattle.messages.specs.Sizes.{node_channels}
use Rattle.claims.specs.Claims.{Progress, holds}
use Rattle.claims.proofs.Holding.{holds-held}
use Rattle.claims.proofs.Counting.{made-le, made-whole, all-free}
use Rattle.hops.specs.Tabled.{Tabled}
use Rattle.messages.specs.declared.Record.{Record}
use Rattle.messages.specs.declared.Stepped.{Stepped}
use Rattle.messages.specs.Step.{is_delivered, holder, counted, moved, arrived, step_of}
use Rattle.messages.specs.Fresh.{begun_of}
use Rattle.messages.specs.Runs.{Listed, messages_in, itinerary_in, all_moves, Reached, fresh, move, successful, successes}
use Rattle.messages.specs.Tells.{keeps, Says, FreeFrom}
use Rattle.messages.proofs.Moves.{Case, unknown, already, arrives, astray, waits, moves, step_case}
use Rattle.messages.proofs.State.{State}
use Rattle.messages.proofs.Total.{all-moves-small, all-moves-whole, channels-inside}
use Rattle.messages.proofs.Tried.{some_succeeds}
use Rattle.messages.proofs.Reached.{reached_state}
use Rattle.messages.proofs.Answers.{unchanged}

module _ {n : ℕ} {edge : ℕ → ℕ → Bool} {labels free falling list : List ℕ} (tabled : Tabled n edge labels free falling) (listed : Listed n list) where
  abbrev k : ℕ
  k = messages_in list

  abbrev itinerary : ℕ → List ℕ
  itinerary = itinerary_in n edge labels list

  module _ {r : Record} (run : Reached n labels free falling list r) where
    abbrev so_far : Progress
    so_far = (reached_state tabled listed run).0

    state : State n edge labels free falling list r so_far
    state = (reached_state tabled listed run).1

    -- RULES 2.3: "One message to a channel, channels held until delivery": what each message holds, read off the record, is what it holds by the claims
    pub holding : (s : Progress) × Says n edge labels list r s
    holding = (so_far, state.says)

    -- RULES 2.3: "while a message is undelivered some message can move"
    pub progress : Some k (λ m. non (is_delivered r m)) → Some k (λ m. successful (step_of r m).answer)
    progress = some_succeeds tabled listed state

    -- RULES 2.3: "Successful moves never exceed the sum, over all messages, of (shortest lawful hops + 3)."
    pub never-more : r.moves ≤ all_moves n edge labels list
    never-more =
        let e = state.says.count in
        let b = made-le k itinerary so_far state.says.lawful in
        let w = all-moves-whole tabled listed in
        omega arith

    -- RULES 2.3: "They reach that sum exactly when every message is delivered"
    pub all-delivered : (r.moves ≡ all_moves n edge labels list) ↔ ((m : ℕ) → m < k → is_delivered r m ≡ true)
    all-delivered =
        let w = made-whole k itinerary so_far state.says.lawful in
        let c = state.says.count in
        let a = all-moves-whole tabled listed in (
          λ e m l. state.says.done m l ∙ w.0 (sym c ∙ e ∙ a) m l,
          λ h. c ∙ w.1 (λ m l. sym (state.says.done m l) ∙ h m l) ∙ sym a,
        )

    -- a channel that no message holds is free
    unheld : (c : ℕ) → ((b : ℕ) → b < k → holds itinerary keeps so_far b c ≡ false) → holder r c ≡ 0
    unheld c none =
        bcase (same (holder r c) 0) (same-eq _ _)
        (λ t.
        let z = same-ne _ _ t in
        let o = state.says.owners c in
        let b : ℕ = holder r c - 1 in
        let l : b < k = omega arith in
        no_tf (eq-same {a = holder r c} {b = suc b} (omega arith)) (state.says.held c b l ∙ none b l))

    -- RULES 2.3: "and then every channel is free"
    pub every_channel_free : ((m : ℕ) → m < k → is_delivered r m ≡ true) → (c : ℕ) → holder r c ≡ 0
    every_channel_free h c = unheld c (λ b l. all-free k itinerary keeps so_far (λ m i. sym (state.says.done m i) ∙ h m i) b l c)

    -- only channels of the n nodes are ever held
    pub free-from : FreeFrom (node_channels * n) r.holders
    free-from = record {
      none = λ c past.
          unheld c (λ b l.
          refute _ (λ h.
          let held = holds-held itinerary keeps so_far b c h in
          let e = held.is in
          let i = held.before in
          let w = state.says.lawful.within b l in
          let low = channels-inside tabled listed b l held.at (omega arith) in
          omega arith));
    }

    -- as long as the sum is not reached some move succeeds
    pub drains : r.moves < all_moves n edge labels list → Some k (λ m. successful (step_of r m).answer)
    drains l =
        ⊎_elim progress (λ none. let e = all-delivered.1 (λ m b. non-false _ (none m b)) in absurd (omega arith))
        (find k (λ m. non (is_delivered r m)))

    counts : counted r.moves ≡ suc r.moves
    counts = let b = never-more in let l = all-moves-small tabled listed in omega arith

    case_counts : {m : ℕ} {x : Stepped} → Case r m x → successful x.answer ≡ true → x.«record».moves ≡ suc r.moves
    unfolding moved arrived
    case_counts (unknown t) h = no_tf h refl
    case_counts (already l u) h = no_tf h refl
    case_counts (arrives l u e) h = counts
    case_counts (astray l u d e) h = no_tf h refl
    case_counts (waits l u d b) h = no_tf h refl
    case_counts (moves l u d z) h = counts

    -- RULES 8.3: "Moved and delivered are one successful move each."
    pub counts-one : (m : ℕ) → successful (step_of r m).answer ≡ true → (step_of r m).«record».moves ≡ suc r.moves
    counts-one m = case_counts (step_case r m)

  -- and leaves one less to make
  pub one_less : {r : Record} → Reached n labels free falling list r → (m : ℕ) → successful (step_of r m).answer ≡ true
      → suc (all_moves n edge labels list - (step_of r m).«record».moves) ≡ all_moves n edge labels list - r.moves
  one_less run m h = let c = counts-one run m h in let b = never-more (move m run) in omega arith

  -- the count is that of the successful moves, and no invention
  pub moves_are_successes : {r : Record} (run : Reached n labels free falling list r) → r.moves ≡ successes run
  unfolding begun_of
  moves_are_successes fresh = refl
  moves_are_successes (move {r = r} m run) =
      let i = moves_are_successes run in
      bcase (successful (step_of r m).answer) (λ t. let w = when_true 1 t in let c = counts-one run m t in omega arith)
      (λ t. let w = when_false 1 t in let c = ap (λ (x : Record). x.moves) (unchanged r m t) in omega arith)

  -- so of the moves that succeed, in whichever order they are tried: never more than the sum, and the sum exactly when all are delivered
  pub run-never-more : {r : Record} (run : Reached n labels free falling list r) → successes run ≤ all_moves n edge labels list
  run-never-more run = rw (moves_are_successes run) at (never-more run)

  pub run-all_delivered : {r : Record} (run : Reached n labels free falling list r)
      → (successes run ≡ all_moves n edge labels list) ↔ ((m : ℕ) → m < k → is_delivered r m ≡ true)
  unfolding is_delivered
  run-all_delivered run = rw (moves_are_successes run) at (all-delivered run)

  -- from every record of a run moves lead on until the sum is reached: then all are delivered
  pub can-drain : {r : Record} → Reached n labels free falling list r
      → (end : Record) × Reached n labels free falling list end × (end.moves ≡ all_moves n edge labels list)
  can-drain run = go (all_moves n edge labels list) run (omega arith)
    where
      go : (left : ℕ) {r : Record} → Reached n labels free falling list r → all_moves n edge labels list ≤ r.moves + left
          → (end : Record) × Reached n labels free falling list end × (end.moves ≡ all_moves n edge labels list)
      go zero {r} run b = let most = never-more run in (r, run, omega arith)
      go (suc left) {r} run b =
          let most = never-more run in
          bcase (below r.moves (all_moves n edge labels list))
          (λ t.
          let s = drains run (below-lt _ _ t) in
          let c = counts-one run s.at s.fact in
          go left (move s.at run) (omega arith))
          (λ t. let h = below-le _ _ t in (r, run, omega arith))
