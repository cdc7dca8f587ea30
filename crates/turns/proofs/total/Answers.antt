-- `turns::total` meets its contract: at each node its degree is counted.
use mathlib.Core.Path.{◌≡◌, sym, ◌∙◌}
use Rattle.std.proofs.Common.{rules}
use Rattle.finite.specs.Sum.{count}
use Rattle.finite.proofs.Sum.{count-bound}
use Rattle.nodes.specs.Limits.{max_nodes}
use Rattle.network.specs.Table.{edge_of}
use Rattle.turns.proofs.Turns.{total_formula}
use Rattle.turns.proofs.total.Goals as goal

pub turns_at-requires-clause-few : goal.turns_at-requires-clause-few
turns_at-requires-clause-few c = λ v d p.
    let e : d ≡ count max_nodes (edge_of c.args.t.now v) = search rules in
    rw e (count-bound max_nodes (edge_of c.args.t.now v))

pub returns : goal.returns
returns c = c.turns_at.ensures (λ v. count max_nodes (edge_of c.args.t.now v)) (λ v d p. search rules) ∙ sym (total_formula max_nodes (edge_of c.args.t.now))
