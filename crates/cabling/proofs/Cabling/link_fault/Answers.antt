-- `cabling::Cabling::link_fault` meets its contract. The invariant: the pairs passed are fine.
use Rattle.std.proofs.Common.{rules, Err}
use mathlib.Core.Path.{◌≡◌, sym, ◌∙◌}
use native.Mathlib.Omega.{arith}
use borrow.Author.Count.{below_more}
use Rattle.cabling.specs.Cabling.{Cabling, cabled}
use Rattle.cabling.proofs.Cases.{fault-pair, fine-pair, link_bad, link-fine}
use Rattle.cabling.proofs.Width.{node-table}
use Rattle.cabling.proofs.Cabling.link_fault.Goals as goal

pub returns-in_err-pair_fault : goal.returns-in_err-pair_fault
returns-in_err-pair_fault c =
    let l = c.loop-p in
    let e = sym c.pair_fault.ensures ∙ c.in_err-pair_fault.was in
    let r : c.from_residual.result ≡ Err c.in_err-pair_fault.field-0.0 = search rules in
    r ∙ sym (link_bad (cabled _ _) l.p l.invariant.0 (omega arith) (fault-pair (cabled _ _) _ e) ∙ e)

pub loop-p-preserved : goal.loop-p-preserved
loop-p-preserved c = (
  below_more _ _ c.loop-p.invariant.0 (fine-pair (cabled _ _) _ (sym c.pair_fault.ensures ∙ c.in_ok-pair_fault.was)),
  omega arith,
  omega arith,
)

pub returns : goal.returns
returns c =
    let k : Cabling = cabled c.args.self.now.nodes c.args.self.now.pairs.now in
    c.node_fault.ensures ∙ node-table k (λ q h. (c.loop-p.invariant.0 q (omega arith)).0) (omega arith) c.table_of.ensures
    ∙ sym (link-fine k c.loop-p.p c.loop-p.invariant.0 (omega arith))
