-- `Ways::of` meets its contract: row by row, and turned round.
use mathlib.Core.Path.{◌∙◌, ap}
use Prim.Native.Nat.{ℕ}
use Rattle.std.proofs.Common.{rules}
use lib.ListN.{get_or}
use Rattle.finite.specs.Sets.{set_of}
use Rattle.nodes.specs.Limits.{max_nodes}
use Rattle.network.specs.Table.{edge_of, table_from}
use Rattle.lawful.specs.Turn.{rises, falls}
use Rattle.rows.specs.Steps.{ways_of, into_of}
use Rattle.rows.proofs.Ways.of.Goals as goal

pub returns : goal.returns
unfolding ways_of table_from
returns c =
    let label : ℕ → ℕ = λ u. get_or c.args.labels.now u 0 in
    let up = c.row_of_each-up.ensures (λ v. set_of max_nodes (rises (edge_of c.args.t.now) label v)) (λ v w p. search rules) in
    let down = c.row_of_each-down.ensures (λ v. set_of max_nodes (falls (edge_of c.args.t.now) label v)) (λ v w p. search rules) in
    λ i. record {
      up = up i;
      down = down i;
      over = (c.into_of-over.ensures ∙ ap into_of up) i;
      under = (c.into_of-under.ensures ∙ ap into_of down) i;
    }
