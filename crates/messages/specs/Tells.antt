-- How a record says how far each message is and what it holds, and what each answer to a move tells.
use Rattle.std.specs.Prelude.{◌≡◌, Bool, true, false, List, ℕ, suc, ◌≤◌, ◌<◌, length, get_or, Ok, Err}
use Rattle.finite.specs.Truth.{same}
use Rattle.refusal.specs.declared.Refusal.TheVariants.{Unknown}
use Rattle.claims.specs.Claims.{Progress, Keeps, holds, wanted, taking, finishing, WithinItinerary, made}
use Rattle.messages.specs.Sizes.{max_channels}
use Rattle.messages.specs.Channels.{injection, all_taken}
use Rattle.messages.specs.declared.Record.{Record}
use Rattle.messages.specs.declared.Answer.TheVariants.{Already, Moved, Blocked, Delivered}
use Rattle.messages.specs.Step.{MoveAnswer, want, is_delivered, holder}
use Rattle.messages.specs.Ready.{messages_of}
use Rattle.messages.specs.Fresh.{source_in}
use Rattle.messages.specs.Runs.{messages_in, itinerary_in}

-- RULES 8.3: "gives back all its channels" when it is delivered: until then a message keeps every channel that it took
abbrev pub keeps : Keeps
keeps m i j = true

-- the record says that message m has taken `taken m` channels, by the one that it wants next, and whether it is delivered, and that it holds just those until
-- it is; a channel's holder is 0 or one of the messages plus 1; and the moves are those made
pub record Says (n : ℕ) (edge : ℕ → ℕ → Bool) (labels list : List ℕ) (r : Record) (s : Progress) : Type 0 where
  pub lawful : WithinItinerary (messages_in list) (itinerary_in n edge labels list) s
  pub wants : (m : ℕ) → m < messages_in list → want r m ≡ get_or (itinerary_in n edge labels list m) (s.taken m) all_taken
  pub done : (m : ℕ) → m < messages_in list → is_delivered r m ≡ s.done m
  pub held : (c m : ℕ) → m < messages_in list → same (holder r c) (suc m) ≡ holds (itinerary_in n edge labels list) keeps s m c
  pub owners : (c : ℕ) → holder r c ≤ messages_in list
  pub count : r.moves ≡ made (messages_in list) s

-- every channel from `span` on is free
pub record FreeFrom (span : ℕ) (holders : List ℕ) : Type 0 where
  pub none : (c : ℕ) → span ≤ c → get_or holders c 0 ≡ 0

-- a move takes the channel c for message m: just that one changes its holder, and nobody held it
pub record TakesOne (r after : Record) (m c : ℕ) : Type 0 where
  pub free : holder r c ≡ 0
  pub taken : holder after c ≡ suc m
  pub others : (d : ℕ) → (c ≡ d → ⊥) → holder after d ≡ holder r d

-- a move gives back what message m holds: those channels are free, the others as they were
pub record GivesBack (r after : Record) (m : ℕ) : Type 0 where
  pub own : (c : ℕ) → holder r c ≡ suc m → holder after c ≡ 0
  pub others : (c : ℕ) → (holder r c ≡ suc m → ⊥) → holder after c ≡ holder r c

-- message m is in the network: it has taken the injection channel of its source and is not delivered
abbrev pub Entered : List ℕ → Record → ℕ → Type 0
Entered list r m = (is_delivered r m ≡ false) × (want r m ≡ injection (source_in list m) → ⊥)

-- it is on its way out: it has taken the consumption channel of its destination, the last, and is not delivered
abbrev pub Leaving : Record → ℕ → Type 0
Leaving r m = (is_delivered r m ≡ false) × (want r m ≡ all_taken)

-- another message b, one of the k and not delivered, holds the channel that m wants next
pub record BlockedBy (k : ℕ) (r : Record) (m b : ℕ) : Type 0 where
  pub low : b < k
  pub other : b ≡ m → ⊥
  pub undelivered : is_delivered r b ≡ false
  pub holds_it : holder r (want r m) ≡ suc b

-- message m had channels to take and took the next
pub record Took (n : ℕ) (edge : ℕ → ℕ → Bool) (labels list : List ℕ) (r : Record) (m : ℕ) (after : Record) : Type 0 where
  pub progress : Progress
  pub before : Says n edge labels list r progress
  pub more : progress.taken m < length (itinerary_in n edge labels list m)
  pub one : TakesOne r after m (wanted (itinerary_in n edge labels list) progress m)
  pub then : Says n edge labels list after (taking progress m)

-- message m had taken all its channels and gave them back
pub record Arrived (n : ℕ) (edge : ℕ → ℕ → Bool) (labels list : List ℕ) (r : Record) (m : ℕ) (after : Record) : Type 0 where
  pub progress : Progress
  pub before : Says n edge labels list r progress
  pub all : progress.taken m ≡ length (itinerary_in n edge labels list m)
  pub back : GivesBack r after m
  pub then : Says n edge labels list after (finishing progress m)

-- what each answer to a move of message m tells of the record and of the one after it
abbrev pub Tells : ℕ → (ℕ → ℕ → Bool) → List ℕ → List ℕ → Record → ℕ → Record → MoveAnswer → Type 0
Tells n edge labels list r m after (Ok Already) = (m < messages_in list) × (is_delivered r m ≡ true) × (after ≡ r)
Tells n edge labels list r m after (Ok Moved) = (m < messages_in list) × (is_delivered r m ≡ false) × Took n edge labels list r m after
Tells n edge labels list r m after (Ok (Blocked b)) = (m < messages_in list) × (is_delivered r m ≡ false) × BlockedBy (messages_in list) r m b × (after ≡ r)
Tells n edge labels list r m after (Ok Delivered) = (m < messages_in list) × (is_delivered r m ≡ false) × Arrived n edge labels list r m after
Tells n edge labels list r m after (Err f) = (messages_in list ≤ m) × (f ≡ Unknown 0) × (after ≡ r)

-- 10 of a move, whatever record it is. RULES 9.1: "Move: no such message, or no channel comes next for it (8.3)."
pub data MoveFault (r : Record) (m : ℕ) : Type 0 where
  no_message : messages_of r ≤ m → MoveFault r m
  none-next : m < messages_of r → is_delivered r m ≡ false → max_channels ≤ want r m → (want r m ≡ all_taken → ⊥) → MoveFault r m
