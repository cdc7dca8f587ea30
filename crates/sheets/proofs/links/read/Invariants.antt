-- `sheets::links::read` meets its contract. The invariant: what is left of the text tells what all of it tells, with the pairs that were read in front.
use Rattle.std.proofs.Common.{◌≡◌, List, ℕ, ◌+◌, ◌%◌, ◌≤◌, length}
use Rattle.laid.specs.Laid.{page}
use Rattle.laid.specs.Lent.{page_of}
use Rattle.sheets.proofs.Reading.{LinesRead}
use Rattle.sheets.proofs.links.read.Given as goal

abbrev pub invariant-loop-left : goal.invariant-loop-left
invariant-loop-left l = record {
  same_buffer : l.pairs.bytes.ghost_name ≡ l.initial.pairs.bytes.ghost_name;
  few : l.i + length l.left ≤ 1 + length l.s;
  told : (b : List ℕ) → page_of l.initial.pairs ≡ page b 0 → length b % 2 ≡ 0 → LinesRead l.s b l.left l.i (page_of l.pairs);
}

abbrev pub decreases-loop-left : goal.decreases-loop-left
decreases-loop-left l = length l.left
