-- RULES 8.3: what one move answers and what it leaves. Reads past an array give 0 and stores there change nothing, so this says something
-- of every record.
use Rattle.std.specs.Prelude.{Bool, true, false, List, ℕ, suc, ◌+◌, ◌-◌, min, get_or, set, Result, Ok, Err}
use Rattle.finite.specs.Truth.{◌&◌, non, same, below}
use Rattle.finite.specs.Lists.{tabulate}
use Rattle.refusal.specs.declared.Refusal.{Refusal}
use Rattle.refusal.specs.declared.Refusal.TheVariants.{Unknown}
use Rattle.hops.specs.Hop.{HopAnswer, hop_within, has_next, next_in, class_in}
use Rattle.messages.specs.Sizes.{max_messages, max_channels, max_count}
use Rattle.messages.specs.Channels.{hop_channel, consumption, all_taken, no_channel}
use Rattle.messages.specs.declared.Record.{Record}
use Rattle.messages.specs.declared.Ahead.{Ahead}
use Rattle.messages.specs.declared.Answer.{Answer}
use Rattle.messages.specs.declared.Answer.TheVariants.{Already, Moved, Blocked, Delivered}
use Rattle.messages.specs.declared.Stepped.{Stepped}

-- where message m is going, the channel that it wants next, where its head is and its class once it has taken that, and whether it is delivered
abbrev pub target : Record → ℕ → ℕ
target r m = get_or r.targets m 0

abbrev pub want : Record → ℕ → ℕ
want r m = get_or r.wants m 0

abbrev pub head : Record → ℕ → ℕ
head r m = get_or r.heads m 0

abbrev pub class : Record → ℕ → ℕ
class r m = get_or r.classes m 0

unfoldable pub is_delivered : Record → ℕ → Bool
is_delivered r m = non (same (get_or r.delivered m 0) 0)

-- 0, or one more than the message that holds the channel
abbrev pub holder : Record → ℕ → ℕ
holder r c = get_or r.holders c 0

-- RULES 8.3: "nobody holds that channel"
unfoldable pub unheld_in : List ℕ → ℕ → Bool
unheld_in holders c = same (get_or holders c 0) 0

-- ---- which channel comes next

abbrev pub ahead : ℕ → ℕ → ℕ → Ahead
ahead want head class = record { want = want; head = head; class = class }

-- RULES 8.3: "hop (7.5) over the record's labels and tables says which node is next and which class the message has there, and where hop answers none or a refusal,
-- no channel comes next"
unfoldable pub by_hop : ℕ → ℕ → HopAnswer → Ahead
by_hop head class a = elim (has_next a) [ true ↦ ahead (hop_channel head (next_in a)) (next_in a) (class_in a) | false ↦ ahead no_channel head class ]

-- RULES 8.3: "the consumption channel comes next where the message is at its destination"; none behind that
unfoldable pub ahead_in : ℕ → List ℕ → List ℕ → List ℕ → ℕ → ℕ → ℕ → ℕ → Ahead
ahead_in nodes labels free falling taken head class target =
    elim (same taken (consumption target)) [
      | true ↦ ahead all_taken head class
      | false ↦
          elim (same head target) [
            | true ↦ ahead (consumption target) head class
            | false ↦ by_hop head class (hop_within labels free falling nodes head class target)
          ]
    ]

-- behind the channel that message m wants
unfoldable pub ahead_of : Record → ℕ → Ahead
ahead_of r m = ahead_in r.nodes r.labels r.free r.falling (want r m) (head r m) (class r m) (target r m)

-- ---- what a move leaves

-- RULES 8.3: "Moved and delivered are one successful move each."; a count that is full stays full
abbrev pub counted : ℕ → ℕ
counted moves = min (moves + 1) max_count

-- a channel's holder once `holder` has given back what it holds
unfoldable pub released : ℕ → ℕ → ℕ
released holder h = elim (same h holder) [ true ↦ 0 | false ↦ h ]

-- RULES 8.3: "it takes that one channel"
unfoldable pub moved : Record → ℕ → Record
moved r m = record {
  nodes = r.nodes;
  messages = r.messages;
  moves = counted r.moves;
  labels = r.labels;
  free = r.free;
  falling = r.falling;
  targets = r.targets;
  heads = set r.heads m (ahead_of r m).head;
  classes = set r.classes m (ahead_of r m).class;
  wants = set r.wants m (ahead_of r m).want;
  delivered = r.delivered;
  holders = set r.holders (want r m) (suc m);
}

-- RULES 8.3: "it is delivered and gives back all its channels"
unfoldable pub arrived : Record → ℕ → Record
arrived r m = record {
  nodes = r.nodes;
  messages = r.messages;
  moves = counted r.moves;
  labels = r.labels;
  free = r.free;
  falling = r.falling;
  targets = r.targets;
  heads = r.heads;
  classes = r.classes;
  wants = r.wants;
  delivered = set r.delivered m 1;
  holders = tabulate max_channels (λ c. released (suc m) (holder r c));
}

-- what a move answers, or its refusal
abbrev pub MoveAnswer : Type 0
MoveAnswer = Result Answer Refusal

-- a record with an answer
abbrev pub with : Record → MoveAnswer → Stepped
with r answer = record { «record» = r; answer = answer }

-- refusal 10, RULES 9.1: "Move: no such message, or no channel comes next for it (8.3).", place 0
abbrev pub refused_of : Record → Stepped
refused_of r = with r (Err (Unknown 0))

-- one move of message m
unfoldable pub step_of : Record → ℕ → Stepped
step_of r m =
    elim (below m r.messages & below m max_messages) [
      | false ↦ refused_of r
      | true ↦
          elim (is_delivered r m) [
            | true ↦ with r (Ok Already)
            | false ↦
                elim (below (want r m) max_channels) [
                  | true ↦
                      elim (unheld_in r.holders (want r m)) [
                        | true ↦ with (moved r m) (Ok Moved)
                        | false ↦ with r (Ok (Blocked (holder r (want r m) - 1)))
                      ]
                  | false ↦ elim (same (want r m) all_taken) [ true ↦ with (arrived r m) (Ok Delivered) | false ↦ refused_of r ]
                ]
          ]
    ]
