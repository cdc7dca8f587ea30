-- `records::injections` meets its contract: every message passed has the injection channel of its source.
use Rattle.messages.specs.Channels.{injection}
use Rattle.messages.specs.Fresh.{source_in}
use Rattle.finite.proofs.Filling.{Filling}
use Rattle.records.proofs.injections.Given as goal

abbrev pub invariant-loop-m : goal.invariant-loop-m
invariant-loop-m l = Filling (λ i. injection (source_in l.list i)) l.initial.want-items l.want-items l.m
