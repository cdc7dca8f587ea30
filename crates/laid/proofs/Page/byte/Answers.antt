-- `laid::Page::byte` meets its contract: the byte stands at the place, or nothing is laid where it finds no room.
use mathlib.Core.List.{[], ◌∷◌}
use native.Mathlib.Omega.{arith}
use Rattle.laid.proofs.Pieces.{behind-room, behind-none}
use Rattle.laid.proofs.Page.byte.Goals as goal

pub returns-then-self-clause-laid : goal.returns-then-self-clause-laid
returns-then-self-clause-laid c = behind-room _ _ (c.args.b ∷ []) (omega arith)

pub returns-else-self-clause-laid : goal.returns-else-self-clause-laid
returns-else-self-clause-laid c = behind-none _ _ (c.args.b ∷ []) (omega arith)
