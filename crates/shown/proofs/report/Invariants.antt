-- `shown::report` meets its contract. The invariant: the fabric's line and those of the nodes before v stand there.
use Rattle.std.proofs.Common.{◌≡◌}
use Rattle.cabling.specs.Cabling.{cabled}
use Rattle.laid.specs.Lent.{page_of}
use Rattle.shown.proofs.Lines.{Printed}
use Rattle.shown.proofs.report.Given as goal

abbrev pub invariant-loop-v : goal.invariant-loop-v
invariant-loop-v l = record {
  same_buffer : l.out.bytes.ghost_name ≡ l.initial.out.bytes.ghost_name;
  printed : Printed (cabled l.f.nodes l.pairs) (page_of l.initial.out) (page_of l.out) l.v;
}
