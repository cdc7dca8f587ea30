-- Runs of the machine: what a start guarantees, the records that moves lead to from there, and the sum of (hops + 3).
use Rattle.std.specs.Prelude.{Bool, true, false, List, [], ◌∷◌, ℕ, ◌+◌, ◌/◌, ◌≤◌, ◌<◌, length, get_or, Ok, Err}
use Rattle.finite.specs.Sum.{sum_to, when}
use Rattle.lawful.specs.Turn.{label_in}
use Rattle.lawful.specs.Entry.{route_of}
use Rattle.messages.specs.declared.Record.{Record}
use Rattle.messages.specs.declared.Answer.TheVariants.{Already, Moved, Blocked, Delivered}
use Rattle.messages.specs.Sizes.{max_list}
use Rattle.messages.specs.Channels.{hop_channel, injection, consumption}
use Rattle.messages.specs.Step.{MoveAnswer, step_of}
use Rattle.messages.specs.Fresh.{source_in, target_in, begun_of}

-- RULES 8.2: "a list of byte pairs (source, destination), 0 to 256 of them", each byte a node. That the pairs are whole is not asked: a last byte
-- without a second makes no message
pub record Listed (n : ℕ) (list : List ℕ) : Type 0 where
  pub short : length list ≤ max_list
  pub nodes : (i : ℕ) → i < length list → get_or list i 0 < n

unfoldable pub messages_in : List ℕ → ℕ
messages_in list = length list / 2

-- the nodes after message m's source on its table's route
unfoldable pub route_in : ℕ → (ℕ → ℕ → Bool) → List ℕ → List ℕ → ℕ → List ℕ
route_in n edge labels list m = route_of n edge (label_in labels) (source_in list m) (target_in list m)

-- the channels of the hops from a node on, and then the consumption channel of the destination t
abbrev pub channels_to : ℕ → ℕ → List ℕ → List ℕ
channels_to t v [] = consumption t ∷ []
channels_to t v (u ∷ l) = hop_channel v u ∷ channels_to t u l

-- RULES 8.3: "the injection channel of its source, those of the hops of its route, the consumption channel of its destination"
unfoldable pub itinerary_in : ℕ → (ℕ → ℕ → Bool) → List ℕ → List ℕ → ℕ → List ℕ
itinerary_in n edge labels list m = injection (source_in list m) ∷ channels_to (target_in list m) (source_in list m) (route_in n edge labels list m)

-- RULES 2.3: "the sum, over all messages, of (shortest lawful hops + 3)": of each the hops of its route, plus three; that these are the shortest is
-- `sum_of_shortest` (proofs/Total)
unfoldable pub all_moves : ℕ → (ℕ → ℕ → Bool) → List ℕ → List ℕ → ℕ
all_moves n edge labels list = sum_to (messages_in list) (λ m. length (route_in n edge labels list m) + 3)

-- the records that a start and moves of any messages in any order lead to
pub data Reached (n : ℕ) (labels free falling list : List ℕ) : Record → Type 0 where
  fresh : Reached n labels free falling list (begun_of n labels free falling list)
  move : {r : Record} (m : ℕ) → Reached n labels free falling list r → Reached n labels free falling list (step_of r m).«record»

-- RULES 8.3: "Moved and delivered are one successful move each."
abbrev pub successful : MoveAnswer → Bool
successful (Ok Already) = false
successful (Ok Moved) = true
successful (Ok (Blocked b)) = false
successful (Ok Delivered) = true
successful (Err f) = false

-- the successful moves of a run
abbrev pub successes : {n : ℕ} {labels free falling list : List ℕ} {r : Record} → Reached n labels free falling list r → ℕ
successes fresh = 0
successes (move {r = r} m run) = successes run + when (successful (step_of r m).answer) 1
