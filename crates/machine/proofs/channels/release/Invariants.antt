-- `machine::channels::release` meets its contract: channels passed are released, the others are as they were.
use mathlib.Core.Path.{◌≡◌}
use lib.ListN.{length}
use Rattle.machine.specs.InPlace.{left_in}
use Rattle.finite.proofs.Filling.{Filling}
use Rattle.machine.proofs.channels.release.Given as goal

abbrev pub invariant-loop-c : goal.invariant-loop-c
invariant-loop-c l = Filling (left_in l.span l.holder l.initial.holders) l.initial.holders l.holders l.c × (length l.holders ≡ length l.initial.holders)
