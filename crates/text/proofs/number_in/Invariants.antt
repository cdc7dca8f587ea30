-- `text::number_in` meets its contract. The invariant: what is read on from n at the next byte is the number.
use Rattle.text.proofs.Reading.{DigitsRead}
use Rattle.text.proofs.number_in.Given as goal

abbrev pub invariant-loop-x : goal.invariant-loop-x
invariant-loop-x l = DigitsRead l.text l.n l.x-index
