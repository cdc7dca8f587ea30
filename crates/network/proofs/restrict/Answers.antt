-- `network::restrict` meets its contract: row by row.
use mathlib.Core.Path.{◌∙◌, ap}
use Prim.Native.Nat.{ℕ}
use native.Mathlib.Omega.{arith}
use Rattle.finite.specs.Sets.{has, set_of}
use Rattle.finite.proofs.Filling.{filling_more, filling_all}
use Rattle.graph.specs.Network.{among}
use Rattle.nodes.specs.Limits.{max_nodes}
use Rattle.nodes.specs.Members.{members}
use Rattle.network.specs.Table.{edge_of, table_from}
use Rattle.network.proofs.restrict.Goals as goal

pub loop-u-preserved : goal.loop-u-preserved
unfolding among edge_of
loop-u-preserved c =
    let w = members c.args.w in
    filling_more _ c.loop-u.invariant (omega arith)
    (c.kept_row.ensures ∙ ap (λ (x : ℕ). set_of max_nodes (among (has w) (λ a b. has x b) c.loop-u.u)) c.neighbours.ensures)

pub returns : goal.returns
unfolding table_from
returns c = filling_all max_nodes c.loop-u.invariant (omega arith) c.loop-u-test.false
