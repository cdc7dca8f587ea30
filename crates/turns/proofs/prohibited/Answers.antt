-- `turns::prohibited` meets its contract: at each node its rising hops are counted.
use mathlib.Core.Path.{◌≡◌, sym, ◌∙◌}
use mathlib.Core.Bool.{Bool}
use Prim.Native.Nat.{ℕ}
use Rattle.std.proofs.Common.{rules}
use lib.ListN.{get_or}
use Rattle.finite.specs.Sum.{count}
use Rattle.finite.proofs.Sum.{count-bound}
use Rattle.lawful.specs.Turn.{rises}
use Rattle.nodes.specs.Limits.{max_nodes}
use Rattle.network.specs.Table.{edge_of}
use Rattle.turns.proofs.Adding.{size_of}
use Rattle.turns.proofs.Turns.{prohibited_formula}
use Rattle.turns.proofs.prohibited.Goals as goal

pub turns_at-requires-clause-few : goal.turns_at-requires-clause-few
turns_at-requires-clause-few c = λ v d p.
    let links : ℕ → Bool = rises (edge_of c.args.t.now) (λ u. get_or c.args.labels.now u 0) v in
    let e : d ≡ count max_nodes links = search (rules, size_of links) in
    rw e (count-bound max_nodes links)

pub returns : goal.returns
returns c =
    let a = c.args in
    let rising : ℕ → ℕ → Bool = rises (edge_of a.t.now) (λ u. get_or a.labels.now u 0) in
    c.turns_at.ensures (λ v. count max_nodes (rising v)) (λ v d p. search (rules, size_of (rising v)))
    ∙ sym (prohibited_formula max_nodes (edge_of a.t.now) (λ u. get_or a.labels.now u 0))
