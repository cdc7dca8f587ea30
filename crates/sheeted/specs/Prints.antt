-- RULES 10.5: "Cable takes a sheet and writes its links image."; RULES 10.6: "Sheet takes a links image and prints its sheet."
use Rattle.std.specs.Prelude.{List, ℕ}
use Rattle.format.specs.Contents.{links_kinds}
use Rattle.image.specs.Image.{image_of, cabling_in}
use Rattle.image.specs.Faults.{links_fault}
use Rattle.lines.specs.Lines.{or_refused}
use Rattle.sheets.specs.Sheet.{sheet_of, cabling_on}
use Rattle.sheets.specs.Faults.{sheet_fault}

-- what Cable writes, at most longest_links bytes, and Sheet, at most longest_sheet
unfoldable pub cable_output : List ℕ → List ℕ
cable_output s = or_refused (sheet_fault s) (image_of links_kinds (cabling_on s))

unfoldable pub sheet_output : List ℕ → List ℕ
sheet_output b = or_refused (links_fault b) (sheet_of (cabling_in b))
