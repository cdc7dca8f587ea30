-- The start call: what it refuses, and the record afterwards.
use Rattle.std.specs.Prelude.{Bool, true, false, List, ℕ, ◌/◌, ◌%◌, leb, eqb, length, Result, Err, Ok}
use Rattle.finite.specs.Truth.{◌&◌, ◌or◌, below}
use Rattle.finite.specs.Search.{least}
use Rattle.refusal.specs.declared.Refusal.{Refusal}
use Rattle.refusal.specs.declared.Refusal.TheVariants.{Unknown, Messages}
use Rattle.refusal.specs.Verdicts.{and_then, Verdict}
use Rattle.fabric.specs.declared.Fabric.{Fabric}
use Rattle.fabric.specs.Fabric.{fabric_of}
use Rattle.format.specs.Contents.{nodes_in}
use Rattle.image.specs.Image.{cabling_in}
use Rattle.image.specs.Faults.{image_fault}
use Rattle.messages.specs.declared.Record.{Record}
use Rattle.messages.specs.Sizes.{max_list}
use Rattle.messages.specs.Fresh.{source_in, target_in, begun_of}
use Rattle.start.specs.declared.Started.{Started}

-- 11, RULES 9.1: "the message list of odd length or over 512 bytes"
unfoldable pub fits : List ℕ → Bool
fits list = eqb (length list % 2) 0 & leb (length list) max_list

-- 10, RULES 9.1: "a node ≥ N in the list"
unfoldable pub strange : ℕ → List ℕ → ℕ → Bool
strange n list p = leb n (source_in list p) or leb n (target_in list p)

-- 11 before 10, which has the place of the first such pair
unfoldable pub list_fault : ℕ → List ℕ → Verdict
list_fault n list =
    elim (fits list) [
      | false ↦ Err Messages
      | true ↦
          let p : ℕ = least (length list / 2) (strange n list) in
          elim (below p (length list / 2)) [ true ↦ Err (Unknown p) | false ↦ Ok tt ]
    ]

-- RULES 8.2: "an image (under read's rules)", and then the list
abbrev pub start_fault : List ℕ → List ℕ → Verdict
start_fault b list = and_then (image_fault b) (list_fault (nodes_in b) list)

-- RULES 8.2: "fills a lent record anew", over the labels and rows of a fabric: that of the image's cabling
abbrev pub fresh_in : Fabric → List ℕ → Record
fresh_in f list = begun_of f.nodes f.labels f.free f.falling list

unfoldable pub fresh_of : List ℕ → List ℕ → Record
fresh_of b list = fresh_in (fabric_of (cabling_in b)) list

-- that record, or the fault
unfoldable pub fresh_by : Verdict → Record → Result Record Refusal
fresh_by (Ok _) r = Ok r
fresh_by (Err f) r = Err f

-- RULES 9.3: "Buffers and record stay as they were."
unfoldable pub record_after : Verdict → Record → Record → Record
record_after (Ok _) old new = new
record_after (Err r) old new = old

-- a verdict beside a record
abbrev pub beside : Verdict → Record → Started
beside verdict r = record { verdict = verdict; «record» = r }

unfoldable pub start_of : Record → List ℕ → List ℕ → Started
start_of old b list = beside (start_fault b list) (record_after (start_fault b list) old (fresh_of b list))
