-- `network::splits` meets its contract: the copy with v struck out holds the links that avoid v.
use mathlib.Core.Path.{◌∙◌, ap}
use mathlib.Core.List.{List}
use Prim.Native.Nat.{ℕ}
use native.Mathlib.Omega.{arith}
use Rattle.finite.specs.Truth.{non}
use Rattle.finite.specs.Sets.{has}
use Rattle.finite.proofs.Truth.{not-non}
use Rattle.finite.proofs.Sets.{has-set_of}
use Rattle.graph.specs.Reach.{splits}
use Rattle.graph.proofs.Connected.{joined_cong}
use Rattle.nodes.specs.Limits.{max_nodes}
use Rattle.network.specs.Table.{edge_of}
use Rattle.network.proofs.Table.{edge-table_from, struck-table}
use Rattle.network.proofs.splits.Goals as goal

pub returns : goal.returns
unfolding splits
returns c =
    not-non _
    ∙ ap non (c.joined.ensures
    ∙ joined_cong max_nodes _ _
    (λ a b k l. ap (λ (t : List ℕ). edge_of t a b) (c.strike.ensures ∙ struck-table _ _ (omega arith)) ∙ edge-table_from _ a b k l) _ _
    (λ v l. ap (λ (x : ℕ). has x v) c.without.ensures ∙ has-set_of max_nodes _ v l))
