-- `records::ends` meets its contract: every message passed has its byte of the list.
use Prim.Native.Nat.{◌+◌, ◌*◌}
use lib.ListN.{get_or}
use Rattle.finite.proofs.Filling.{Filling}
use Rattle.records.proofs.ends.Given as goal

abbrev pub invariant-loop-m : goal.invariant-loop-m
invariant-loop-m l = Filling (λ i. get_or l.list (2 * i + l.first) 0) l.initial.node-items l.node-items l.m
