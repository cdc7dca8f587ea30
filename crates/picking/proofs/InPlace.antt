-- A pick in place, from its parts; where no channel from the bound on is held it is a pick.
use mathlib.Core.Path.{◌≡◌, ap}
use Prim.Native.Nat.{ℕ}
use lib.ListN.{length}
use Rattle.seeds.specs.Seed.{next_seed, look_at}
use Rattle.messages.specs.Sizes.{max_channels}
use Rattle.messages.specs.declared.Record.{Record}
use Rattle.messages.specs.declared.Stepped.{Stepped}
use Rattle.messages.specs.Step.{MoveAnswer, with, step_of}
use Rattle.messages.specs.Tells.{FreeFrom}
use Rattle.messages.specs.Ready.{messages_of, ready_at, ready}
use Rattle.machine.specs.InPlace.{step_in}
use Rattle.machine.proofs.InPlace.{step-in}
use Rattle.picking.specs.Order.{chosen_by, chosen, pick_of}
use Rattle.picking.specs.InPlace.{picked, pick_in}

pub picked_in : (span seed : ℕ) (r : Record) {next look message : ℕ} {x : Record} {a : MoveAnswer} → next ≡ next_seed seed → look ≡ look_at next (messages_of r)
    → message ≡ chosen_by (messages_of r) (ready_at r.wants r.delivered r.holders) look
    → with x a ≡ step_in span r message → picked next look message x ≡ pick_in span seed r
unfolding pick_in ready
picked_in span seed r e f g h =
    let s = ap (λ (y : Stepped). y.«record») h in
    cc

-- a pick by value, from its parts
pub picked_of : (seed : ℕ) (r : Record) {next look message : ℕ} {x : Stepped} → next ≡ next_seed seed → look ≡ look_at next (messages_of r)
    → message ≡ chosen_by (messages_of r) (ready_at r.wants r.delivered r.holders) look → x ≡ step_of r message → picked next look message x.«record» ≡ pick_of seed r
unfolding pick_of ready
picked_of seed r e f g h =
    let s = ap (λ (y : Stepped). y.«record») h in
    cc

pub pick-in : (span seed : ℕ) (r : Record) → length r.holders ≡ max_channels → FreeFrom span r.holders → pick_in span seed r ≡ pick_of seed r
unfolding pick_in pick_of
pick-in span seed r size free =
    let m : ℕ = chosen r (look_at (next_seed seed) (messages_of r)) in
    ap (λ (s : Stepped). picked (next_seed seed) (look_at (next_seed seed) (messages_of r)) m s.«record») (step-in span r m size free)
