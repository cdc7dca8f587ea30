-- `cabling::Cabling::pair_fault` meets its contract: the ends are tested before the place.
use mathlib.Core.Path.{sym, ◌∙◌}
use Rattle.cabling.specs.Cabling.{cabled}
use Rattle.cabling.proofs.Cases.{pair_ends, pair_order, pair-fine}
use Rattle.cabling.proofs.Tests.{decide_ends, decide_order}
use Rattle.cabling.proofs.Cabling.pair_fault.Goals as goal

pub returns-then-ends : goal.returns-then-ends
returns-then-ends c = sym (pair_ends (cabled _ _) _ ((decide_ends (cabled _ _) _).yes (sym c.bad_ends-ends.ensures ∙ c.if-ends.true)))

pub returns-then-order : goal.returns-then-order
returns-then-order c =
    sym (pair_order (cabled c.args.self.now.nodes c.args.self.now.pairs.now) c.args.p ((decide_ends (cabled c.args.self.now.nodes c.args.self.now.pairs.now) c.args.p).no (cc))
    ((decide_order _ _).yes (sym c.not_above-order.ensures ∙ c.if-order.true)))

pub returns : goal.returns
returns c =
    sym (pair-fine (cabled _ _) _ (
      (decide_ends (cabled _ _) _).no (sym c.bad_ends-ends.ensures ∙ c.if-ends.false),
      (decide_order _ _).no (sym c.not_above-order.ensures ∙ c.if-order.false),
    ))
