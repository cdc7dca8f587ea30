-- `cabling::Cabling::fault` meets its contract: each way out is a case of the definition.
use mathlib.Core.Path.{sym, ◌∙◌}
use mathlib.Core.Logic.{inl, inr}
use native.Mathlib.Omega.{arith}
use Rattle.cabling.specs.Cabling.{cabled}
use Rattle.cabling.proofs.Cases.{whole-count, whole_shape, whole-links}
use Rattle.cabling.proofs.Cabling.fault.Goals.{then-self-lt2-via-then-self-lt2, then-self-lt2-via-else-self-lt2+then-self-gt-MAX_NODES, then-self-ne0-via-then-self-ne0, then-self-ne0-via-else-self-ne0+then-self}
use Rattle.cabling.proofs.Cabling.fault.Goals as goal

pub returns-then-self-lt2 : goal.returns-then-self-lt2
returns-then-self-lt2 c =
    sym (whole-count (cabled _ _)
    (elim c.then-self-lt2.branch [
      | then-self-lt2-via-then-self-lt2 w ↦ inl (omega arith)
      | then-self-lt2-via-else-self-lt2+then-self-gt-MAX_NODES w ↦ inr (omega arith)
    ]))

pub returns-then-self-ne0 : goal.returns-then-self-ne0
returns-then-self-ne0 c =
    sym (whole_shape (cabled _ _) (omega arith, omega arith)
    (elim c.then-self-ne0.branch [
      | then-self-ne0-via-then-self-ne0 w ↦ inl (λ e. omega arith)
      | then-self-ne0-via-else-self-ne0+then-self w ↦ inr (omega arith)
    ]))

pub returns : goal.returns
returns c = c.link_fault.ensures ∙ sym (whole-links (cabled _ _) (omega arith, omega arith) (omega arith, omega arith))
