-- While a message is undelivered each pick moves one, so a drain ends when the sum of demand 3 (RULES 2.3) is reached: every message is delivered then.
use mathlib.Core.Path.{◌≡◌, refl, sym, ◌∙◌, ap, subst}
use mathlib.Core.Bool.{Bool, true, false}
use mathlib.Core.List.{List}
use Prim.Native.Nat.{ℕ, zero, suc, ◌+◌, ◌-◌, ◌≤◌}
use native.Mathlib.Omega.{arith}
use Rattle.finite.proofs.Truth.{bcase}
use Rattle.seeds.specs.Seed.{next_seed, look_at}
use Rattle.seeds.proofs.Places.{look-low}
use Rattle.hops.specs.Tabled.{Tabled}
use Rattle.messages.specs.declared.Record.{Record}
use Rattle.messages.specs.Step.{step_of}
use Rattle.messages.specs.Runs.{Listed, all_moves, Reached, move, successful}
use Rattle.messages.specs.Ready.{messages_of, ready, all_delivered}
use Rattle.messages.proofs.Drain.{never-more, all-delivered, one_less}
use Rattle.messages.proofs.Ready.{ready-moves, every_delivered, messages-listed, one-ready}
use Rattle.picking.specs.Order.{pick_of}
use Rattle.draining.specs.Drained.{after}
use Rattle.picking.proofs.Chosen.{chosen-ready}

pub after-done : (k seed : ℕ) (r : Record) → all_delivered r ≡ true → after k seed r ≡ r
unfolding after
after-done zero seed r d = refl
after-done (suc k) seed r d = rw (d, after)

pub after-pick : (k seed : ℕ) (r : Record) → all_delivered r ≡ false → after (suc k) seed r ≡ after k (pick_of seed r).seed (pick_of seed r).«record»
unfolding after
after-pick k seed r d = rw (d, after)

module _ {n : ℕ} {edge : ℕ → ℕ → Bool} {labels free falling list : List ℕ} (tabled : Tabled n edge labels free falling) (listed : Listed n list) where
  abbrev sum : ℕ
  sum = all_moves n edge labels list

  abbrev Run : Record → Type 0
  Run r = Reached n labels free falling list r

  module _ {r : Record} (run : Run r) (seed : ℕ) where
    pub pick_run : Run (pick_of seed r).«record»
    unfolding pick_of
    pick_run = move _ run

    module _ (d : all_delivered r ≡ false) where
      -- the message that a pick chooses moves or is delivered
      pub pick-moves : successful (step_of r (pick_of seed r).message).answer ≡ true
      unfolding pick_of
      pick-moves =
          let s = one-ready tabled listed run d in
          let l = s.low in
          let c = chosen-ready (messages_of r) (ready r) (look_at (next_seed seed) (messages_of r)) (look-low (next_seed seed) (messages_of r) (omega arith)) s in
          sym (ready-moves r _ c.0) ∙ c.1

      pub pick_less : suc (sum - (pick_of seed r).«record».moves) ≡ sum - r.moves
      unfolding pick_of
      pick_less = one_less tabled listed run _ pick-moves

  -- where no move is left every message is delivered
  none_left : {r : Record} → Run r → sum - r.moves ≡ 0 → all_delivered r ≡ true
  none_left {r} run z =
      let b = never-more tabled listed run in
      let e : r.moves ≡ sum = omega arith in
      let k = messages-listed tabled listed run in
      sym (every_delivered r (λ m l. (all-delivered tabled listed run).0 e m (omega arith)))

  pub after_run : (k seed : ℕ) {r : Record} → Run r → Run (after k seed r)
  unfolding after
  after_run zero seed run = run
  after_run (suc k) seed {r} run =
      bcase (all_delivered r) (λ d. subst Run (sym (after-done (suc k) seed r d)) run)
      (λ d. subst Run (sym (after-pick k seed r d)) (after_run k _ (pick_run run seed)))

  -- as many picks as moves are left, or more, end the drain
  pub after-ends : (k seed : ℕ) {r : Record} → Run r → sum - r.moves ≤ k → all_delivered (after k seed r) ≡ true
  unfolding after
  after-ends zero seed run l = none_left run (omega arith)
  after-ends (suc k) seed {r} run l =
      bcase (all_delivered r) (λ d. ap all_delivered (after-done (suc k) seed r d) ∙ d)
      (λ d.
      let e = pick_less run seed d in
      ap all_delivered (after-pick k seed r d) ∙ after-ends k _ (pick_run run seed) (omega arith))

  -- and it is the same end
  pub after_same : (j k seed : ℕ) {r : Record} → Run r → sum - r.moves ≤ j → sum - r.moves ≤ k → after j seed r ≡ after k seed r
  unfolding after
  after_same zero k seed {r} run l m = sym (after-done k seed r (none_left run (omega arith)))
  after_same (suc j) zero seed {r} run l m = after-done (suc j) seed r (none_left run (omega arith))
  after_same (suc j) (suc k) seed {r} run l m =
      bcase (all_delivered r) (λ d. after-done (suc j) seed r d ∙ sym (after-done (suc k) seed r d))
      (λ d.
      let e = pick_less run seed d in
      after-pick j seed r d ∙ after_same j k _ (pick_run run seed) (omega arith) (omega arith) ∙ sym (after-pick k seed r d))

  -- each pick counts at most one
  pub after-count : (k seed : ℕ) {r : Record} → Run r → (after k seed r).moves ≤ r.moves + k
  unfolding after
  after-count zero seed run = omega arith
  after-count (suc k) seed {r} run =
      bcase (all_delivered r) (λ d. let e = ap (λ (x : Record). x.moves) (after-done (suc k) seed r d) in omega arith)
      (λ d.
      let e = ap (λ (x : Record). x.moves) (after-pick k seed r d) in
      let i = after-count k (pick_of seed r).seed (pick_run run seed) in
      let l = pick_less run seed d in
      let b = never-more tabled listed (pick_run run seed) in
      omega arith)
