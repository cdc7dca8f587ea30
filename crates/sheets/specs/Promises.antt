-- RULES 7.7: "Cable takes a sheet and writes the links image of its cabling. Sheet takes a links image and writes its sheet."
use Rattle.std.specs.Prelude.{List, ℕ}
use Rattle.format.specs.Contents.{links_kinds}
use Rattle.format.specs.Bytes.{AllBytes}
use Rattle.results.specs.Written.{Writes, Written}
use Rattle.image.specs.Image.{image_of, cabling_in}
use Rattle.image.specs.Faults.{links_fault}
use Rattle.sheets.specs.Sheet.{sheet_of, cabling_on}
use Rattle.sheets.specs.Faults.{sheet_fault}

-- what cable answers of the sheet s, and what it leaves in the lent buffer
abbrev pub Cables : List ℕ → List ℕ → Written → List ℕ → Type 0
Cables s before answer after = Writes (sheet_fault s) (image_of links_kinds (cabling_on s)) before answer after

-- what sheet answers of the image b, whose bytes are bytes
pub record Sheets (b before : List ℕ) (answer : Written) (after : List ℕ) : Type 0 where
  pub writes : Writes (links_fault b) (sheet_of (cabling_in b)) before answer after
  pub bytes : AllBytes b
