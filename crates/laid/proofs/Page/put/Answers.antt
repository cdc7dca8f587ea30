-- `laid::Page::put` meets its contract: the bytes stand at the place, or nothing is laid where they find no room.
use Rattle.std.proofs.Common.{arith, rules}
use Rattle.laid.proofs.Pieces.{behind-none, behind-written}
use Rattle.laid.proofs.Page.put.Goals.{then-self-via-then-self, then-self-via-else-self+then-self-bytes}
use Rattle.laid.proofs.Page.put.Goals as goal

pub returns-then-self-clause-laid : goal.returns-then-self-clause-laid
returns-then-self-clause-laid c =
    behind-none _ _ _ (elim c.then-self.branch [
      | then-self-via-then-self w ↦ omega arith
      | then-self-via-else-self+then-self-bytes w ↦ omega arith
    ])

pub returns-clause-laid : goal.returns-clause-laid
returns-clause-laid c = behind-written _ _ _ _ (search rules) (omega arith)
