-- A pick in arrays that stay in their place: that of the record which they make, but a message that is delivered gives back only channels below a bound.
use Rattle.std.specs.Prelude.{ℕ}
use Rattle.seeds.specs.Seed.{next_seed, look_at}
use Rattle.messages.specs.declared.Record.{Record}
use Rattle.messages.specs.Ready.{messages_of}
use Rattle.machine.specs.InPlace.{step_in}
use Rattle.picking.specs.declared.Picked.{Picked}
use Rattle.picking.specs.Order.{chosen}

-- a pick's answer from its parts
abbrev pub picked : ℕ → ℕ → ℕ → Record → Picked
picked seed look message r = record { seed = seed; look = look; message = message; «record» = r }

unfoldable pub pick_in : ℕ → ℕ → Record → Picked
pick_in span seed r =
    let next : ℕ = next_seed seed in
    let look : ℕ = look_at next (messages_of r) in
    let message : ℕ = chosen r look in
    picked next look message (step_in span r message).«record»
