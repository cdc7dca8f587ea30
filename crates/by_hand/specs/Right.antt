-- What is right about a worked network, by the definitions that the calls promise.
use Rattle.std.specs.Prelude.{◌≡◌, Bool, true, false, List, [], ◌∷◌, ℕ}
use Rattle.cabling.specs.Cabling.{Cabling, links, Good}
use Rattle.turns.specs.Turns.{all_turns, prohibited_turns}
use Rattle.fabric.specs.Fabric.{labels_for, label_for, rows_for}
use Rattle.format.specs.Contents.{links_kinds, full_kinds}
use Rattle.image.specs.Image.{image_of, kinds_of}
use Rattle.sheets.specs.Sheet.{sheet_of}
use Rattle.messages.specs.declared.Record.{Record}
use Rattle.messages.specs.Step.{MoveAnswer, step_of}
use Rattle.start.specs.Start.{fresh_of}
use Rattle.picking.specs.Order.{pick_of}
use Rattle.draining.specs.Drained.{drain_of}
use Rattle.hops.specs.Hop.{hop_in}
use Rattle.by_hand.specs.Networks.{Asked, Load, Tries, Worked}

-- a list is the one that is worked by hand; what is left empty is not worked by hand
abbrev pub Given : List ℕ → List ℕ → Type 0
Given [] l = Unit {0}
Given (x ∷ given) l = l ≡ x ∷ given

-- each hop by these labels and tables is answered as it is worked by hand
abbrev pub EveryHop : List ℕ → List ℕ → List ℕ → ℕ → List Asked → Type 0
EveryHop labels free falling n [] = Unit {0}
EveryHop labels free falling n (a ∷ l) = (hop_in labels free falling n a.node a.class a.destination ≡ a.answer) × EveryHop labels free falling n l

-- RULES 11.1: "take 20 successful moves": so many a drain counts over either image, whatever its seed and whatever the record was; "From seed 0 the drain looks at
-- message 2 first": in its first turn
pub record RightLoad (c : Cabling) (l : Load) : Type 0 where
  pub moves : (full : Bool) (old : Record) (seed : ℕ) → (drain_of old (image_of (kinds_of full) c) l.messages seed).«record».moves ≡ l.moves
  pub look : (full : Bool) → (pick_of 0 (fresh_of (image_of (kinds_of full) c) l.messages)).look ≡ l.look

abbrev pub EveryLoad : Cabling → List Load → Type 0
EveryLoad c [] = Unit {0}
EveryLoad c (l ∷ loads) = RightLoad c l × EveryLoad c loads

-- what moves that are tried one after another answer
abbrev pub answers_of : Record → List ℕ → List MoveAnswer
answers_of r [] = []
answers_of r (m ∷ tried) = (step_of r m).answer ∷ answers_of (step_of r m).«record» tried

-- RULES 11.1: "moved, blocked by 0, moved, moved, delivered, moved": after a start with either image
abbrev pub EveryTry : Cabling → List Tries → Type 0
EveryTry c [] = Unit {0}
EveryTry c (t ∷ l) = ((full : Bool) → answers_of (fresh_of (image_of (kinds_of full) c) t.messages) t.tried ≡ t.answers) × EveryTry c l

pub record Right (e : Worked) : Type 0 where
  -- a cabling that no call refuses
  pub good : Good e.cabling
  -- RULES 11.1: "labels 1, 2, 3; T = 3, W = 1", "Node 7 is labelled first"
  pub labels : labels_for e.cabling ≡ e.labels
  pub turns : all_turns e.cabling.nodes (links e.cabling) ≡ e.turns
  pub prohibited : prohibited_turns e.cabling.nodes (links e.cabling) (label_for e.cabling) ≡ e.prohibited
  pub first : label_for e.cabling e.first ≡ 1
  -- RULES 11.1: "falling rows", "Its links image", "The bodies of its full image"
  pub free : Given e.free (rows_for e.cabling true)
  pub falling : Given e.falling (rows_for e.cabling false)
  pub links-image : Given e.links-image (image_of links_kinds e.cabling)
  pub full-image : Given e.full-image (image_of full_kinds e.cabling)
  -- RULES 11.1: "Hops of the ring", RULES 11.1: "Hops: 1 free to 3, node 0 free"
  pub hops : EveryHop (labels_for e.cabling) (rows_for e.cabling true) (rows_for e.cabling false) e.cabling.nodes e.hops
  -- RULES 11.1: "The sheet of the link is 32 0A 30 20 31 0A in hexadecimal; that of the ring is in 10.6."
  pub sheet : Given e.sheet (sheet_of e.cabling)
  pub loads : EveryLoad e.cabling e.loads
  pub tries : EveryTry e.cabling e.tries
