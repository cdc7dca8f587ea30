-- `machine::ahead` meets its contract: each return is a case of the definition.
use mathlib.Core.Path.{refl, ◌∙◌, ap}
use Rattle.std.specs.Prelude.{Ok}
use Rattle.messages.proofs.Moves.{ahead-last, ahead_home, ahead-hop, ahead_none}
use Rattle.machine.proofs.ahead.Goals as goal
use Rattle.machine.proofs.ahead.Goals.{in_default-via-in-Ok+in_default, in_default-via-in_default}
use borrow.Author.Rules.{rules}

pub returns-then-want-last : goal.returns-then-want-last
returns-then-want-last c = ahead-last _ _ _ _ _ _ _ _ c.consumption-last.ensures c.if-want-last.true

pub returns-then-head-target : goal.returns-then-head-target
returns-then-head-target c = ahead_home _ _ _ _ _ _ _ _ c.consumption-last.ensures c.if-want-last.false c.if-head-target.true

pub returns-in_default : goal.returns-in_default
returns-in_default c =
    ahead_none _ _ _ _ _ _ _ _ c.consumption-last.ensures c.if-want-last.false c.if-head-target.false
    (rw (c.from.ensures, c.from-2.ensures, c.from-3.ensures) at c.within.ensures)
    (elim c.in_default.branch [ in_default-via-in-Ok+in_default w ↦ rw w.in_default.is (search rules) | in_default-via-in_default w ↦ rw w.in_default.is refl ])

pub returns : goal.returns
returns c =
    ahead-hop _ _ _ _ _ _ _ _ c.consumption-last.ensures c.if-want-last.false c.if-head-target.false
    (rw (c.from.ensures, c.from-2.ensures, c.from-3.ensures) at c.within.ensures) c.hop-want.ensures (c.in-Ok-Some.is ∙ ap Ok c.in-Ok-Some.field-0-is)
