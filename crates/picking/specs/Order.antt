-- RULES 10.4: which message Drain moves.
use Rattle.std.specs.Prelude.{Bool, true, false, ℕ, ◌+◌, ◌%◌}
use Rattle.finite.specs.Truth.{below}
use Rattle.finite.specs.Search.{least}
use Rattle.seeds.specs.Seed.{next_seed, look_at}
use Rattle.messages.specs.declared.Record.{Record}
use Rattle.messages.specs.Step.{step_of}
use Rattle.messages.specs.Ready.{messages_of, ready}
use Rattle.picking.specs.declared.Picked.{Picked}

-- of n messages the one that stands k behind `look`, RULES 10.4: "going round"
abbrev pub around : ℕ → ℕ → ℕ → ℕ
around n look k = (look + k) % n

-- RULES 10.4: "the first message from there on, going round, that is neither delivered nor blocked"; `look` where there is none
unfoldable pub chosen_by : ℕ → (ℕ → Bool) → ℕ → ℕ
chosen_by n isReady look =
    let k : ℕ = least n (λ k. isReady (around n look k)) in
    elim (below k n) [ true ↦ around n look k | false ↦ look ]

abbrev pub chosen : Record → ℕ → ℕ
chosen r = chosen_by (messages_of r) (ready r)

-- RULES 10.4: "Before each move the seed becomes": the seed, where it says to look, the message that moves, and the record after its move
unfoldable pub pick_of : ℕ → Record → Picked
pick_of seed r =
    let next : ℕ = next_seed seed in
    let look : ℕ = look_at next (messages_of r) in
    let message : ℕ = chosen r look in
    record { seed = next; look = look; message = message; «record» = (step_of r message).«record» }
