-- A move in arrays that stay in their place: that of the record which they make, but a message that is delivered gives back only channels below a bound.
use Rattle.std.specs.Prelude.{Bool, true, false, List, ℕ, suc, length, get_or, set, Ok}
use Rattle.finite.specs.Truth.{◌&◌, non, same, below}
use Rattle.finite.specs.Lists.{tabulate}
use Rattle.messages.specs.Sizes.{max_messages}
use Rattle.messages.specs.Channels.{all_taken}
use Rattle.messages.specs.declared.Record.{Record}
use Rattle.messages.specs.declared.Answer.TheVariants.{Delivered}
use Rattle.messages.specs.declared.Stepped.{Stepped}
use Rattle.messages.specs.Step.{want, is_delivered, ahead_of, counted, released, with, step_of}

-- a record from its parts
abbrev pub packed : ℕ → ℕ → ℕ → List ℕ → List ℕ → List ℕ → List ℕ → List ℕ → List ℕ → List ℕ → List ℕ → List ℕ → Record
packed nodes messages moves labels free falling targets heads classes wants delivered holders = record {
  nodes = nodes;
  messages = messages;
  moves = moves;
  labels = labels;
  free = free;
  falling = falling;
  targets = targets;
  heads = heads;
  classes = classes;
  wants = wants;
  delivered = delivered;
  holders = holders;
}

-- message m has taken the channel that it wanted: what comes behind it is written down, and nothing else
unfoldable pub advanced : Record → ℕ → Record
advanced r m =
    packed r.nodes r.messages r.moves r.labels r.free r.falling r.targets (set r.heads m (ahead_of r m).head) (set r.classes m (ahead_of r m).class)
    (set r.wants m (ahead_of r m).want) r.delivered r.holders

-- channel c's holder, and all holders, once `holder` has given back what it holds of the channels below `span`
unfoldable pub left_in : ℕ → ℕ → List ℕ → ℕ → ℕ
left_in span holder holders c = elim (below c span) [ true ↦ released holder (get_or holders c 0) | false ↦ get_or holders c 0 ]

unfoldable pub given_back : ℕ → ℕ → List ℕ → List ℕ
given_back span holder holders = tabulate (length holders) (left_in span holder holders)

-- message m is there, undelivered, and has taken all its channels
unfoldable pub arriving : Record → ℕ → Bool
arriving r m = (below m r.messages & below m max_messages) & (non (is_delivered r m) & same (want r m) all_taken)

-- it is delivered and gives back its channels below `span`
unfoldable pub arrived_in : ℕ → Record → ℕ → Record
arrived_in span r m =
    packed r.nodes r.messages (counted r.moves) r.labels r.free r.falling r.targets r.heads r.classes r.wants
    (set r.delivered m 1) (given_back span (suc m) r.holders)

-- one move of message m in place; one that does not deliver it is a move of the record
unfoldable pub step_in : ℕ → Record → ℕ → Stepped
step_in span r m = elim (arriving r m) [ true ↦ with (arrived_in span r m) (Ok Delivered) | false ↦ step_of r m ]
