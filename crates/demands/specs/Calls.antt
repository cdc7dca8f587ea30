-- Demand 1 in words (RULES 2.1): of each call its promise, which of its answers are refusals, and the rows of RULES 9.1 for them. A lent buffer or record is
-- what it was before and after.
use Rattle.std.specs.Prelude.{◌≡◌, Bool, Option, List, [], ◌↔◌, ◌⊎◌, ℕ, ◌≤◌, ◌<◌, length, Err, Ok}
use Rattle.refusal.specs.Verdicts.{Verdict}
use Rattle.refusal.specs.Number.{number_of, place_of}
use Rattle.refusal.specs.declared.Refusal.{Refusal}
use Rattle.refusal.specs.declared.Refusal.TheVariants.{Short, Unknown}
use Rattle.cabling.specs.Cabling.{Cabling}
use Rattle.cabling.specs.Faults.{fault_of}
use Rattle.cabling.specs.Verdicts.{Means}
use Rattle.hops.specs.Row.{RowFault, row_in}
use Rattle.hops.specs.Hop.{HopAnswer, hop_in, HopFault}
use Rattle.format.specs.Contents.{links_kinds, full_kinds, nodes_in, pairs_in}
use Rattle.format.specs.declared.Entry.{Entry}
use Rattle.contents.specs.declared.Reader.{Reader}
use Rattle.contents.specs.Walking.{step_from}
use Rattle.results.specs.Written.{Writes, Written}
use Rattle.image.specs.Image.{image_of, kinds_of, cabling_in}
use Rattle.image.specs.Faults.{links_fault}
use Rattle.image.specs.Verdicts.{OfLinks, OfEither}
use Rattle.reading.specs.Reads.{Outcome}
use Rattle.route.specs.Route.{route_fault, route_bytes}
use Rattle.sheets.specs.Sheet.{sheet_of, cabling_on}
use Rattle.sheets.specs.Verdicts.{OfSheet}
use Rattle.messages.specs.declared.Record.{Record}
use Rattle.messages.specs.Step.{MoveAnswer, with}
use Rattle.messages.specs.Step as machine
use Rattle.messages.specs.Tells.{MoveFault}
use Rattle.start.specs.Start.{beside, start_of}
use Rattle.start.specs.Verdicts.{OfStart}

-- a refusal by its number and its place, for every kind of answer and every row
abbrev pub Numbered : (Refusal → Type 0) → ℕ → ℕ → Type 0
Numbered P number place = (r : Refusal) × P r × (number_of r ≡ number) × (place_of r ≡ place)

-- a call with inputs I, lent memory S and answers A keeps demand 1
pub record KeepsPromise {I S A : Type 0} (Promise : I → S → A → S → Type 0) (Refuses : A → Refusal → Type 0) (RefusalRows : I → S → Refusal → Type 0) : Type 0 where
  -- RULES 2.1: "any two outcomes that it allows are equal"
  pub one : (i : I) (s t u : S) (a b : A) → Promise i s a t → Promise i s b u → (a ≡ b) × (t ≡ u)
  -- RULES 2.1: "Each refusal is given exactly when its row of 9.1 says, with its number and its place."
  pub given : (i : I) (s t : S) (a : A) → Promise i s a t → (number place : ℕ) → Numbered (Refuses a) number place ↔ Numbered (RefusalRows i s) number place
  -- RULES 2.1: "A refused call leaves every lent buffer and record as it was."
  pub untouched : (i : I) (s t : S) (a : A) (r : Refusal) → Promise i s a t → Refuses a r → t ≡ s

-- ---- calls that write: the rows of their checks, and 9, RULES 9.1, "the result is longer than the buffer", after all of them

pub data RefusalRows (Of : Verdict → Type 0) (size room : ℕ) : Refusal → Type 0 where
  fault : {r : Refusal} → Of (Err r) → RefusalRows Of size room r
  short : Of (Ok tt) → room < size → RefusalRows Of size room Short

abbrev pub NotWrites : Written → Refusal → Type 0
NotWrites a r = a ≡ Err r

abbrev pub Write : Cabling × Bool → List ℕ → Written → List ℕ → Type 0
Write i before a after = Writes (fault_of i.0) (image_of (kinds_of i.1) i.0) before a after

abbrev pub WriteRows : Cabling × Bool → List ℕ → Refusal → Type 0
WriteRows i before = RefusalRows (Means i.0) (length (image_of (kinds_of i.1) i.0)) (length before)

abbrev pub Build : List ℕ → List ℕ → Written → List ℕ → Type 0
Build b before a after = Writes (links_fault b) (image_of full_kinds (cabling_in b)) before a after

abbrev pub BuildRows : List ℕ → List ℕ → Refusal → Type 0
BuildRows b before = RefusalRows (OfLinks b) (length (image_of full_kinds (cabling_in b))) (length before)

-- 12, and then those of the cabling
abbrev pub CableRows : List ℕ → List ℕ → Refusal → Type 0
CableRows s before = RefusalRows (OfSheet s) (length (image_of links_kinds (cabling_on s))) (length before)

-- those of build
abbrev pub SheetRows : List ℕ → List ℕ → Refusal → Type 0
SheetRows b before = RefusalRows (OfLinks b) (length (sheet_of (cabling_in b))) (length before)

abbrev pub NotReads : Outcome → Refusal → Type 0
NotReads a r = a ≡ Err r

abbrev pub ReadRows : List ℕ → List ℕ → Refusal → Type 0
ReadRows b before = RefusalRows (OfEither b) (length (pairs_in b)) (length before)

-- 10, RULES 9.1: "Route: a node ≥ N.", after the image's own
pub data OfRoute (b : List ℕ) (s t : ℕ) : Verdict → Type 0 where
  of_image : {r : Refusal} → OfEither b (Err r) → OfRoute b s t (Err r)
  no_node : OfEither b (Ok tt) → (nodes_in b ≤ s) ⊎ (nodes_in b ≤ t) → OfRoute b s t (Err (Unknown 0))
  of_nodes : OfEither b (Ok tt) → s < nodes_in b → t < nodes_in b → OfRoute b s t (Ok tt)

abbrev pub Route : List ℕ × ℕ × ℕ → List ℕ → Written → List ℕ → Type 0
Route i before a after = Writes (route_fault i.0 i.1 i.2) (route_bytes i.0 i.1 i.2) before a after

abbrev pub RouteRows : List ℕ × ℕ × ℕ → List ℕ → Refusal → Type 0
RouteRows i before = RefusalRows (OfRoute i.0 i.1 i.2) (length (route_bytes i.0 i.1 i.2)) (length before)

-- ---- calls over a record

abbrev pub NotStarts : Verdict → Refusal → Type 0
NotStarts v r = v ≡ Err r

abbrev pub Start : List ℕ × List ℕ → Record → Verdict → Record → Type 0
Start i old v after = beside v after ≡ start_of old i.0 i.1

abbrev pub StartRows : List ℕ × List ℕ → Record → Refusal → Type 0
StartRows i old r = OfStart i.0 i.1 (Err r)

abbrev pub NotMoves : MoveAnswer → Refusal → Type 0
NotMoves a r = a ≡ Err r

abbrev pub Move : ℕ → Record → MoveAnswer → Record → Type 0
Move m old a after = with after a ≡ machine.step_of old m

abbrev pub MoveRows : ℕ → Record → Refusal → Type 0
MoveRows m old r = (r ≡ Unknown 0) × MoveFault old m

-- ---- calls over tables: nothing is lent to be written

-- the two tables, N, a node and a class
abbrev pub InTables : Type 0
InTables = List ℕ × List ℕ × ℕ × ℕ × ℕ

-- RULES 7.5: "an empty part means refusal 10"
abbrev pub NoRow : List ℕ → Refusal → Type 0
NoRow part r = (part ≡ []) × (r ≡ Unknown 0)

abbrev pub Row : InTables → Unit {0} → List ℕ → Unit {0} → Type 0
Row i s a t = a ≡ row_in i.0 i.1 i.2 i.3 i.4

abbrev pub RowRows : InTables → Unit {0} → Refusal → Type 0
RowRows i s r = RowFault i.0 i.1 i.2 i.3 i.4 × (r ≡ Unknown 0)

abbrev pub NotHops : HopAnswer → Refusal → Type 0
NotHops a r = a ≡ Err r

-- the labels before them, and a destination behind
abbrev pub Hop : List ℕ × InTables × ℕ → Unit {0} → HopAnswer → Unit {0} → Type 0
Hop i s a t = let (labels, (free, falling, n, node, class), destination) = i in a ≡ hop_in labels free falling n node class destination

abbrev pub HopRows : List ℕ × InTables × ℕ → Unit {0} → Refusal → Type 0
HopRows i s r = let (labels, (free, falling, n, node, class), destination) = i in HopFault labels free falling n node class destination × (r ≡ Unknown 0)

-- ---- the reader of the contents: it refuses nothing, and where there is no entry it answers none and stays

abbrev pub ReaderStep : Unit {0} → Reader → Option Entry → Reader → Type 0
ReaderStep i old a after = (a, after) ≡ step_from old

abbrev pub Never : {A : Type 0} → A → Refusal → Type 0
Never a r = ⊥

abbrev pub NoRows : {I S : Type 0} → I → S → Refusal → Type 0
NoRows i s r = ⊥
