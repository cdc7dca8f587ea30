-- `writing::laying::contents_of` meets its contract: an entry more, and all entries.
use Rattle.std.proofs.Common.{refl, arith, rules}
use Rattle.writing.proofs.Pieces.{entries-begin, entries_next, entries-end}
use Rattle.writing.proofs.laying.contents_of.Goals as goal

pub loop-i-init : goal.loop-i-init
loop-i-init c = record { same_buffer = refl; entries = entries-begin _ _ }

pub loop-i-preserved : goal.loop-i-preserved
loop-i-preserved c = record {
  same_buffer = search rules;
  entries = rw c.from-size.ensures
      (entries_next c.loop-i.invariant.entries (omega arith) (omega arith)
      (rw (c.entry_bytes.ensures, c.from-size.ensures) at c.put-in-loop-i.ensures.laid));
}

pub returns-clause-laid : goal.returns-clause-laid
returns-clause-laid c = λ b p h. entries-end c.loop-i.invariant.entries (omega arith) b (rw p at c.put.ensures.laid) h
