-- What a drain comes to, whatever its seed: it takes exactly as many picks as the sum of (shortest lawful hops + 3), which it counts; then every message is
-- delivered and every channel is free.
use Rattle.std.specs.Prelude.{Ok}
use mathlib.Core.Path.{◌≡◌, sym, ◌∙◌}
use mathlib.Core.Bool.{true, false}
use mathlib.Core.List.{List}
use mathlib.Core.Logic.{◌↔◌}
use Prim.Native.Nat.{ℕ, ◌≤◌, ◌<◌}
use native.Mathlib.Nat.{le_refl}
use native.Mathlib.Omega.{arith}
use Rattle.format.specs.Contents.{nodes_in}
use Rattle.image.specs.Image.{cabling_in}
use Rattle.messages.specs.declared.Record.{Record}
use Rattle.messages.specs.Step.{is_delivered, holder, step_of}
use Rattle.messages.specs.Runs.{Listed, messages_in, successful}
use Rattle.messages.specs.Ready.{all_delivered}
use Rattle.messages.proofs.Drain.{all-delivered, every_channel_free}
use Rattle.messages.proofs.Reached.{reached_state}
use Rattle.messages.proofs.Ready.{delivered_every, messages-listed}
use Rattle.start.specs.Start.{start_fault, fresh_of}
use Rattle.fabric.proofs.Arrays.{TabledFor}
use Rattle.start.proofs.Fabrics.{RunFor, fresh_reached, start-fabric, start-listed}
use Rattle.picking.specs.Order.{pick_of}
use Rattle.draining.specs.Drained.{after, sum_of, end_of}
use Rattle.draining.proofs.Picks.{pick-moves, after_run, after-ends, after_same, after-count}
use Rattle.draining.proofs.Running.{sum_read, fresh-moves}

module _ (b list : List ℕ) (fine : start_fault b list ≡ Ok tt) where
  tabled : TabledFor (cabling_in b)
  tabled = start-fabric b list fine

  listed : Listed (nodes_in b) list
  listed = start-listed b list fine

  -- while a message is undelivered, the one that a pick chooses moves
  pub chosen-moves : {r : Record} → RunFor (cabling_in b) list r → (seed : ℕ) → all_delivered r ≡ false → successful (step_of r (pick_of seed r).message).answer ≡ true
  chosen-moves run seed d = pick-moves tabled listed run seed d

  -- all are delivered exactly when the sum is reached
  delivered_sum : {r : Record} → RunFor (cabling_in b) list r → all_delivered r ≡ true → r.moves ≡ sum_of b list
  delivered_sum {r} run d = let k = messages-listed tabled listed run in (all-delivered tabled listed run).1 (λ m l. delivered_every r d m (omega arith)) ∙ sum_read b list

  module _ (seed : ℕ) where
    -- the sum is the number of picks that it takes, and no budget: more picks change nothing
    pub picks_needed : (k : ℕ) → (all_delivered (after k seed (fresh_of b list)) ≡ true) ↔ (sum_of b list ≤ k)
    picks_needed k =
        let z = fresh-moves b list in
        let s = sum_read b list in (
          λ d.
              let e = delivered_sum (after_run tabled listed k seed (fresh_reached b list)) d in
              let c = after-count tabled listed k seed (fresh_reached b list) in
              omega arith,
          λ l. after-ends tabled listed k seed (fresh_reached b list) (omega arith),
        )

    pub no_budget : (k : ℕ) → sum_of b list ≤ k → after k seed (fresh_of b list) ≡ end_of b list seed
    unfolding end_of
    no_budget k l =
        let z = fresh-moves b list in
        let s = sum_read b list in
        after_same tabled listed k (sum_of b list) seed (fresh_reached b list) (omega arith) (omega arith)

    end-run : RunFor (cabling_in b) list (end_of b list seed)
    unfolding end_of
    end-run = after_run tabled listed (sum_of b list) seed (fresh_reached b list)

    pub end-all : all_delivered (end_of b list seed) ≡ true
    unfolding end_of
    end-all = (picks_needed (sum_of b list)).1 (le_refl _)

    pub end-moves : (end_of b list seed).moves ≡ sum_of b list
    end-moves = delivered_sum end-run end-all

    pub end-messages : (end_of b list seed).messages ≡ messages_in list
    end-messages = (reached_state tabled listed end-run).1.kept.messages

    pub end_delivered : (m : ℕ) → m < messages_in list → is_delivered (end_of b list seed) m ≡ true
    end_delivered = (all-delivered tabled listed end-run).0 (end-moves ∙ sym (sum_read b list))

    pub end-free : (c : ℕ) → holder (end_of b list seed) c ≡ 0
    end-free = every_channel_free tabled listed end-run end_delivered
