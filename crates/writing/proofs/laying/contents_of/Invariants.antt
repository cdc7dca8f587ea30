-- `writing::laying::contents_of` meets its contract. The invariant: the first i entries stand behind the first two bytes.
use Rattle.std.proofs.Common.{◌≡◌}
use Rattle.laid.specs.Lent.{page_of}
use Rattle.writing.proofs.Pieces.{Entries}
use Rattle.writing.proofs.laying.contents_of.Given as goal

abbrev pub invariant-loop-i : goal.invariant-loop-i
invariant-loop-i l =
    record {
      same_buffer : l.out.bytes.ghost_name ≡ l.initial.out.bytes.ghost_name;
      entries : Entries l.sizes (page_of l.initial.out) (page_of l.out) l.offset l.i;
    }
