-- `lines::fields` meets its contract. The invariant: the fields of the numbers from here on, behind what is there, make them all.
use Rattle.std.proofs.Common.{◌≡◌, ℕ, map}
use Rattle.laid.specs.Lent.{page_of}
use Rattle.lines.specs.Lines.{ConvertsBy}
use Rattle.lines.proofs.Whole.{Fields}
use Rattle.lines.proofs.fields.Given as goal

abbrev pub invariant-loop-x : goal.invariant-loop-x
invariant-loop-x g l =
    (l.out.bytes.ghost_name ≡ l.initial.out.bytes.ghost_name)
    × ((n : _ → ℕ) → ConvertsBy g.T.Into.converts n → Fields (page_of l.initial.out) (map n l.numbers) (page_of l.out) l.x-index)
