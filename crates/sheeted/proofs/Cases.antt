-- What a call that finds room leaves in the buffer, and what is told of it, is what the program prints.
use mathlib.Core.List.{List}
use Prim.Native.Nat.{ℕ, ◌≤◌}
use lib.Dec.{lit≤}
use lib.ListN.{length}
use Rattle.format.specs.Contents.{links_kinds}
use Rattle.results.specs.Written.{Writes, room_for, Written}
use Rattle.image.specs.Image.{image_of, cabling_in}
use Rattle.image.specs.Longest.{longest_links}
use Rattle.image.proofs.Images.{links-fit}
use Rattle.image.proofs.Faults.{cabling-good, links-fine}
use Rattle.lines.specs.Lines.{Told}
use Rattle.lines.proofs.Printed.{call_prints}
use Rattle.sheets.specs.Sheet.{sheet_of, longest_sheet, cabling_on}
use Rattle.sheets.specs.Promises.{Cables, Sheets}
use Rattle.sheets.proofs.Sheets.{accepted-sheet}
use Rattle.sheets.proofs.Printing.{sheet-size}
use Rattle.sheeted.specs.Prints.{cable_output, sheet_output}

module _ {before after last : List ℕ} {x answer : Written} where
  pub cable_prints : (s : List ℕ) → longest_links ≤ length before → Cables s before x after → Told x after answer last
      → Writes (room_for longest_links before) (cable_output s) before answer last
  unfolding cable_output
  cable_prints s room w t = call_prints (image_of links_kinds (cabling_on s)) x room (lit≤ tt) (λ e. links-fit (cabling_on s) (accepted-sheet s e).0) w t

  pub sheet-prints : (b : List ℕ) → longest_sheet ≤ length before → Sheets b before x after → Told x after answer last
      → Writes (room_for longest_sheet before) (sheet_output b) before answer last
  unfolding sheet_output
  sheet-prints b room w t = call_prints (sheet_of (cabling_in b)) x room (lit≤ tt) (λ e. sheet-size (cabling-good b (links-fine b e).1).0) w.writes t
