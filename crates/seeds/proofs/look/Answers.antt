-- `seeds::look` meets its contract.
use Rattle.finite.proofs.Truth.{eq-same, ne_same}
use Rattle.seeds.specs.Seed.{look_at}
use Rattle.seeds.proofs.look.Goals as goal

pub returns-then-messages-eq0 : goal.returns-then-messages-eq0
unfolding look_at
returns-then-messages-eq0 c = rw (eq-same c.if-messages-eq0.true, look_at)

pub returns : goal.returns
unfolding look_at
returns c = rw (ne_same c.if-messages-eq0.false, look_at)
