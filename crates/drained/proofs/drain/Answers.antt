-- `drained::drain` meets its contract: the fault of the input, or the line of the drain's end.
use Rattle.std.proofs.Common.{◌≡◌, ◌+◌, ◌≤◌, length, sym, ◌∙◌, rules, arith}
use Rattle.laid.specs.Laid.{page}
use Rattle.laid.proofs.Pieces.{lays_left}
use Rattle.results.proofs.Placed.{fault-writes, err-writes}
use Rattle.lines.proofs.Whole.{lays-line}
use Rattle.draining.specs.Drained.{drain_of}
use Rattle.draining.proofs.Answers.{drain-verdict, drain-record}
use Rattle.drained.specs.Drains.{image_end, image_in, seed_in, list_in, drained_word}
use Rattle.drained.proofs.Cases.{fault-short, fault-start, drain-writes, parts_drained}
use Rattle.drained.proofs.drain.Goals as goal
use Rattle.drained.proofs.drain.Goals.{After-drain-drained}

-- the input is long enough, and its parts are drained
whole-at : (c : After-drain-drained) → let i = c.args.input.now in image_end i + 4 ≤ length i
whole-at c = let e = c.number_at-end.ensures.number in omega arith

drained-at : (c : After-drain-drained) → let i = c.args.input.now in c.drain-drained.result ≡ drain_of c.blank.result (image_in i) (list_in i) (seed_in i)
drained-at c = parts_drained c.args.input.now _ c.number_at-end.ensures.number c.seed_at-seed.ensures c.drain-drained.ensures

pub returns-then-input-list : goal.returns-then-input-list
returns-then-input-list c = let e = c.number_at-end.ensures.number in fault-writes (fault-short _ (omega arith))

pub returns-in_err-drained : goal.returns-in_err-drained
returns-in_err-drained c =
    let a = (goal.at.returns-in_err-drained c).After-drain-drained in
    err-writes (fault-start _ (whole-at a) ∙ sym (drain-verdict _ _ _ _ (drained-at a)) ∙ c.in_err-drained.was) (search rules)

pub returns : goal.returns
returns c =
    let a = (goal.at.returns c).After-drain-drained in
    let fine = sym (drain-verdict _ _ _ _ (drained-at a)) ∙ c.in_ok-drained.was in
    let l = lays-line drained_word _ (rw c.new-page.ensures.blank at c.line.ensures.laid) c.requires in
    drain-writes _ {p = page _ _} (fault-start _ (whole-at a) ∙ fine) (drain-record _ _ _ _ (drained-at a) fine) (lays_left l (search rules))
