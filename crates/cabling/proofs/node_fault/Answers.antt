-- `cabling::node_fault` meets its contract: each way out is a case of the definition.
use mathlib.Core.Path.{sym, ◌∙◌}
use Rattle.cabling.proofs.Cases.{node-crowded, node_apart, node-fine}
use Rattle.cabling.proofs.node_fault.Goals as goal

pub returns-in-Some : goal.returns-in-Some
returns-in-Some c = sym (node-crowded _ _ _ (sym c.lowest_crowded.ensures ∙ c.in-Some.is))

pub returns-in-Some-lowest_apart : goal.returns-in-Some-lowest_apart
returns-in-Some-lowest_apart c =
    sym (node_apart _ _ _ (sym c.lowest_crowded.ensures ∙ c.in_default.is) (sym c.lowest_apart.ensures ∙ c.in-Some-lowest_apart.is))

pub returns : goal.returns
returns c =
    sym (node-fine _ _ _ (sym c.lowest_crowded.ensures ∙ c.in_default.is) (sym c.lowest_apart.ensures ∙ c.in_default-lowest_apart.is))
