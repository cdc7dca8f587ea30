-- `network::joined` meets its contract: nothing of w is left outside what is reached from its lowest node.
use mathlib.Core.Path.{refl, ◌∙◌, ap}
use Prim.Native.Nat.{ℕ}
use lib.Dec.{eqb}
use Rattle.finite.specs.Truth.{same}
use Rattle.finite.specs.Sets.{has}
use Rattle.finite.proofs.Sets.{has-set_of}
use Rattle.graph.specs.Reach.{joined, covers}
use Rattle.graph.proofs.Reach.{reach_cong}
use Rattle.graph.proofs.Connected.{covers-none}
use Rattle.nodes.specs.Limits.{max_nodes}
use Rattle.network.proofs.joined.Goals as goal

pub returns : goal.returns
unfolding joined
returns c =
    c.is_empty.ensures ∙ ap (λ (x : ℕ). eqb x 0) c.difference.ensures ∙ covers-none max_nodes _ _
    ∙ ap (covers max_nodes _) (c.flood-seen.ensures
    ∙ reach_cong max_nodes _ _ (λ a b k l. refl) _ _ (λ v l.
    ap (λ (w : ℕ). has w v) c.one.ensures ∙ has-set_of max_nodes _ v l ∙ ap (λ (x : ℕ). same x v) c.lowest.ensures))
