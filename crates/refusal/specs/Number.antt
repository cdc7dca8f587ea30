-- RULES 9.1: the number and the place of each refusal.
use Rattle.std.specs.Prelude.{ℕ}
use Rattle.refusal.specs.declared.Refusal.{Refusal}
use Rattle.refusal.specs.declared.Refusal.TheVariants.{Contents, Count, Shape, Ends, Order, Crowded, Apart, Differs, Short, Unknown, Messages, Line}

abbrev pub number_of : Refusal → ℕ
number_of Contents = 1
number_of Count = 2
number_of Shape = 3
number_of (Ends p) = 4
number_of (Order p) = 5
number_of (Crowded v) = 6
number_of (Apart v) = 7
number_of Differs = 8
number_of Short = 9
number_of (Unknown p) = 10
number_of Messages = 11
number_of (Line i) = 12

abbrev pub place_of : Refusal → ℕ
place_of Contents = 0
place_of Count = 0
place_of Shape = 0
place_of (Ends p) = p
place_of (Order p) = p
place_of (Crowded v) = v
place_of (Apart v) = v
place_of Differs = 0
place_of Short = 0
place_of (Unknown p) = p
place_of Messages = 0
place_of (Line i) = i
