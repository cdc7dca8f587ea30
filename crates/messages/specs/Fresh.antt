-- The record that a fresh start fills.
use Rattle.std.specs.Prelude.{List, [], ℕ, ◌+◌, ◌*◌, ◌/◌, min, length, get_or, replicate}
use Rattle.finite.specs.Lists.{tabulate}
use Rattle.nodes.specs.Limits.{max_nodes}
use Rattle.messages.specs.Sizes.{max_messages, max_pairs, max_channels}
use Rattle.messages.specs.Channels.{injection}
use Rattle.messages.specs.declared.Record.{Record}

-- RULES 8.2: "a list of byte pairs (source, destination)": byte 2 m of it is the source of message m, byte 2 m + 1 its destination
abbrev pub source_in : List ℕ → ℕ → ℕ
source_in list m = get_or list (2 * m) 0

abbrev pub target_in : List ℕ → ℕ → ℕ
target_in list m = get_or list (2 * m + 1) 0

unfoldable pub zeros : ℕ → List ℕ
zeros n = replicate n 0

-- every message wants the injection channel of its source and is free there, nothing is delivered, and, RULES 8.2: "No channel is held, and the number of moves
-- is 0 again."
unfoldable pub begun_of : ℕ → List ℕ → List ℕ → List ℕ → List ℕ → Record
begun_of n labels free falling list = record {
  nodes = n;
  messages = min (length list / 2) max_messages;
  moves = 0;
  labels = labels;
  free = free;
  falling = falling;
  targets = tabulate max_messages (target_in list);
  heads = tabulate max_messages (source_in list);
  classes = zeros max_messages;
  wants = tabulate max_messages (λ m. injection (source_in list m));
  delivered = zeros max_messages;
  holders = zeros max_channels;
}

-- a record to start with: no nodes, no messages
abbrev pub blank_record : Record
blank_record = begun_of 0 (replicate max_nodes 0) (replicate max_pairs 0) (replicate max_pairs 0) []
