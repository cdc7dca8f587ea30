-- `sheets::links::read` meets its contract: a line more, a line that is none, or no line left.
use Rattle.std.proofs.Common.{sym, ◌∙◌, rules, arith}
use Rattle.sheets.proofs.Reading.{lines_read_more, lines_read_bad, lines_read_end, found-bytes, found-less}
use Rattle.sheets.proofs.links.read.Goals as goal

pub returns-in_default-clause-holds : goal.returns-in_default-clause-holds
returns-in_default-clause-holds c = λ b p even.
    lines_read_bad (c.loop-left.invariant.told b p even) (sym c.in_default.is ∙ c.two.ensures) (search rules)

pub overflow_cast-line : goal.overflow_cast-line
overflow_cast-line c = let (m, n) = found-bytes _ c.in-Some.ensures in omega arith

pub overflow_cast-line-in-loop-left : goal.overflow_cast-line-in-loop-left
overflow_cast-line-in-loop-left c = let (m, n) = found-bytes _ c.in-Some.ensures in omega arith

pub loop-left-smaller : goal.loop-left-smaller
loop-left-smaller c = rw c.rest-left.ensures (found-less _ c.in-Some.ensures (search rules))

pub loop-left-preserved : goal.loop-left-preserved
loop-left-preserved c =
    let less = found-less _ c.in-Some.ensures (search rules) in
    record {
      same_buffer = search rules;
      few = rw c.rest-left.ensures (omega arith);
      told = λ b p even. rw c.rest-left.ensures (lines_read_more (c.loop-left.invariant.told b p even) c.in-Some.ensures c.put.ensures.laid);
    }

pub returns-clause-holds : goal.returns-clause-holds
returns-clause-holds c = λ b p even. lines_read_end (c.loop-left.invariant.told b p even) (search rules)
