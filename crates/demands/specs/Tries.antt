-- Moves that are tried one after another, in whichever order: a list of message numbers of any size, known or not, blocked or delivered.
use Rattle.std.specs.Prelude.{◌≡◌, true, List, [], ◌∷◌, ◌↔◌, ℕ, ◌+◌, ◌≤◌, ◌<◌, length, Err}
use Rattle.finite.specs.Truth.{non}
use Rattle.finite.specs.Sum.{sum_to, when}
use Rattle.finite.specs.Search.{Some}
use Rattle.lawful.specs.Path.{LawfulTo, Shortest}
use Rattle.refusal.specs.declared.Refusal.{Refusal}
use Rattle.cabling.specs.Cabling.{Cabling, links}
use Rattle.claims.specs.Claims.{Progress}
use Rattle.fabric.specs.Fabric.{label_for, fabric_of}
use Rattle.messages.specs.declared.Record.{Record}
use Rattle.messages.specs.Step.{is_delivered, holder, step_of}
use Rattle.messages.specs.Fresh.{source_in, target_in}
use Rattle.messages.specs.Runs.{messages_in, successful}
use Rattle.messages.specs.Tells.{Says, Entered, Leaving, Tells}

-- the record after all of them
abbrev pub tried : Record → List ℕ → Record
tried r [] = r
tried r (m ∷ tries) = tried (step_of r m).«record» tries

-- RULES 8.3: "Moved and delivered are one successful move each.": how many of them succeeded
abbrev pub succeeded : Record → List ℕ → ℕ
succeeded r [] = 0
succeeded r (m ∷ tries) = when (successful (step_of r m).answer) 1 + succeeded (step_of r m).«record» tries

-- of each message of the list a shortest lawful path from its source to its destination
abbrev pub ShortestPaths : Cabling → List ℕ → (ℕ → List ℕ) → Type 0
ShortestPaths c list paths = (m : ℕ) → m < messages_in list → Shortest (LawfulTo (links c) (label_for c) (source_in list m) (target_in list m)) (paths m)

-- RULES 2.3: "the sum, over all messages, of (shortest lawful hops + 3)"
abbrev pub sum_over : List ℕ → (ℕ → List ℕ) → ℕ
sum_over list paths = sum_to (messages_in list) (λ m. length (paths m) + 3)

abbrev pub AllDelivered : List ℕ → Record → Type 0
AllDelivered list r = (m : ℕ) → m < messages_in list → is_delivered r m ≡ true

-- demand 3 (RULES 2.3), of a record that start filled for a cabling's messages, the moves tried from there, and the sum
pub record Drains (c : Cabling) (list : List ℕ) (begun : Record) (tries : List ℕ) (sum : ℕ) : Type 0 where
  -- RULES 2.3: "In whichever order moves are tried, while a message is undelivered some message can move."
  pub goes_on : Some (messages_in list) (λ m. non (is_delivered (tried begun tries) m)) → Some (messages_in list) (λ m. successful (step_of (tried begun tries) m).answer)
  -- RULES 8.3: "Hop answers a node in every record that a start and moves lead to": no message of the list is refused
  pub never-refused : (m : ℕ) → m < messages_in list → (f : Refusal) → (step_of (tried begun tries) m).answer ≡ Err f → ⊥
  -- RULES 2.3: "Successful moves never exceed the sum"
  pub never-more : succeeded begun tries ≤ sum
  -- RULES 2.3: "They reach that sum exactly when every message is delivered"
  pub whole : (succeeded begun tries ≡ sum) ↔ AllDelivered list (tried begun tries)
  -- RULES 2.3: "and then every channel is free": those of the links, and each node's injection and consumption channel
  pub free : AllDelivered list (tried begun tries) → (channel : ℕ) → holder (tried begun tries) channel ≡ 0
  -- RULES 2.3: "One message to a channel, channels held until delivery": a message holds just the channels that it has taken, until it is delivered
  pub holding : (s : Progress) × Says c.nodes (links c) (fabric_of c).labels list (tried begun tries) s
  -- RULES 8.1: "at any time at most one message holds a channel": of those from a node one at most is in the network, of those to a node one at most on its way out
  pub one_in : (a b : ℕ) → a < messages_in list → b < messages_in list → source_in list a ≡ source_in list b → Entered list (tried begun tries) a → Entered list (tried begun tries) b → a ≡ b
  pub one_out : (a b : ℕ) → a < messages_in list → b < messages_in list → target_in list a ≡ target_in list b → Leaving (tried begun tries) a → Leaving (tried begun tries) b → a ≡ b
  -- RULES 8.3: what each answer to one move more tells
  pub tells : (m : ℕ) → Tells c.nodes (links c) (fabric_of c).labels list (tried begun tries) m (step_of (tried begun tries) m).«record» (step_of (tried begun tries) m).answer
