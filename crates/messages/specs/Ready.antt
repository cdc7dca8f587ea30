-- Which messages can move, and whether all are delivered.
use Rattle.std.specs.Prelude.{Bool, List, ℕ, min, get_or}
use Rattle.finite.specs.Truth.{◌&◌, ◌or◌, same, below}
use Rattle.finite.specs.Search.{all}
use Rattle.messages.specs.Sizes.{max_messages, max_channels}
use Rattle.messages.specs.Channels.{all_taken}
use Rattle.messages.specs.declared.Record.{Record}
use Rattle.messages.specs.Step.{is_delivered, unheld_in}

-- how many messages a record has; more than 256 count as 256
abbrev pub messages_of : Record → ℕ
messages_of r = min r.messages max_messages

-- a move of a message with this next channel and mark succeeds: it has no mark, and has taken all its channels or has one to take that is free. Where a start
-- made the record that is RULES 10.4: "neither delivered nor blocked"
unfoldable pub ready_in : List ℕ → ℕ → ℕ → Bool
ready_in holders want mark = same mark 0 & (same want all_taken or below want max_channels & unheld_in holders want)

-- message m, by arrays that tell its next channel and its mark
abbrev pub ready_at : List ℕ → List ℕ → List ℕ → ℕ → Bool
ready_at wants delivered holders m = ready_in holders (get_or wants m 0) (get_or delivered m 0)

unfoldable pub ready : Record → ℕ → Bool
ready r m = ready_at r.wants r.delivered r.holders m

-- RULES 10.4: "every message is delivered"
unfoldable pub all_delivered : Record → Bool
all_delivered r = all (messages_of r) (is_delivered r)
