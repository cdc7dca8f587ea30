-- `Ways::lead` meets its contract: the lowest member of the joined word.
use mathlib.Core.Path.{◌∙◌}
use Rattle.network.specs.Table.{edge_of}
use Rattle.rows.specs.Steps.{lead_of}
use Rattle.rows.proofs.Joining.{lead-word}
use Rattle.rows.proofs.Ways.lead.Goals as goal

pub returns : goal.returns
unfolding lead_of edge_of
returns c =
    c.lowest.ensures ∙ lead-word _ _ c.common-rises.ensures c.common-falls.ensures c.union.ensures
    ∙ rw (c.neighbours.ensures, c.neighbours-2.ensures)
