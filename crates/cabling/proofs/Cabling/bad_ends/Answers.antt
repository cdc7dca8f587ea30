-- `cabling::Cabling::bad_ends` meets its contract: each way out is one of the two reasons, or neither.
use mathlib.Core.Logic.{inl, inr}
use native.Mathlib.Omega.{arith}
use Rattle.finite.proofs.Decide.{agree, decide_leb}
use Rattle.cabling.specs.Cabling.{cabled}
use Rattle.cabling.proofs.Tests.{decide_ends}
use Rattle.cabling.proofs.Cabling.bad_ends.Goals as goal

pub returns-then-b-low_end : goal.returns-then-b-low_end
returns-then-b-low_end c =
    agree (decide_leb c.high_end-b.result c.low_end.result) (decide_ends (cabled _ _) _) (λ h. inl (omega arith))
    (λ h. absurd (omega arith))

pub returns-else-b-low_end : goal.returns-else-b-low_end
returns-else-b-low_end c =
    agree (decide_leb c.args.self.now.nodes c.high_end-b.result) (decide_ends (cabled _ _) _) (λ h. inr (omega arith))
    (λ h. (omega arith, omega arith))
