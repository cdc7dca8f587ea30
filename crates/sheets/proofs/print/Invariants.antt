-- `sheets::print` meets its contract. The invariant: with the lines of the pairs that are left behind it, what is laid is the sheet.
use Rattle.std.proofs.Common.{◌≡◌, length}
use Rattle.laid.specs.Lent.{page_of}
use Rattle.sheets.specs.Held.{with_links}
use Rattle.sheets.proofs.print.Given as goal

abbrev pub invariant-loop-left : goal.invariant-loop-left
invariant-loop-left l = record {
  same_buffer : l.out.bytes.ghost_name ≡ l.initial.out.bytes.ghost_name;
  rest : with_links (page_of l.out) l.left ≡ with_links (page_of l.initial.out) l.initial.left;
}

abbrev pub decreases-loop-left : goal.decreases-loop-left
decreases-loop-left l = length l.left
