-- What the arrays that a caller lends make.
use Rattle.std.specs.Prelude.{◌≡◌}
use Rattle.messages.specs.declared.Record.{Record}
use Rattle.machine.specs.InPlace.{packed}
use Rattle.machine.specs.declared.Lent.{Lent}

-- the record that they make
abbrev pub made_of : Lent → Record
made_of l =
    packed l.tables.nodes l.messages l.moves.now l.tables.labels.now l.tables.free.now l.tables.falling.now l.targets.now l.heads.now l.classes.now l.wants.now
    l.delivered.now l.holders.now

-- the same is lent, each array that may change where it was
pub record StaysLent (before after : Lent) : Type 0 where
  pub tables : after.tables ≡ before.tables
  pub messages : after.messages ≡ before.messages
  pub moves : after.moves.ghost_name ≡ before.moves.ghost_name
  pub targets : after.targets ≡ before.targets
  pub heads : after.heads.ghost_name ≡ before.heads.ghost_name
  pub classes : after.classes.ghost_name ≡ before.classes.ghost_name
  pub wants : after.wants.ghost_name ≡ before.wants.ghost_name
  pub delivered : after.delivered.ghost_name ≡ before.delivered.ghost_name
  pub holders : after.holders.ghost_name ≡ before.holders.ghost_name
