-- `labels::labels` meets its contract: stage by stage.
use mathlib.Core.Path.{◌≡◌, ◌∙◌, ap₂}
use Prim.Native.Nat.{min}
use native.Mathlib.Nat.{le_trans, le_of_eq, min-le_right}
use native.Mathlib.Omega.{arith}
use Rattle.nodes.specs.Limits.{max_nodes}
use Rattle.network.specs.Table.{edge_of}
use Rattle.rule.specs.Labels.{labelled, labels_of}
use Rattle.labels.proofs.Giving.{giving_none, giving_more, put-give}
use Rattle.labels.proofs.labels.Goals as goal

pub loop-k-init : goal.loop-k-init
loop-k-init c =
    let m = c.capped-m.ensures in record {
      stage = giving_none _ _ (le_trans (le_of_eq m) (min-le_right _ max_nodes)) c.first-w.ensures c.restrict-rest.ensures;
      width = m;
    }

pub loop-k-preserved : goal.loop-k-preserved
loop-k-preserved c =
    let i = c.loop-k.invariant in record {
      stage = giving_more _ _ _ _ _ _ (le_trans (le_of_eq i.width) (min-le_right _ max_nodes)) i.stage c.choice-v.ensures
          (put-give _ _ _ i.stage.size c.put.ensures) c.strike.ensures c.without-w.ensures;
      width = i.width;
    }

pub returns : goal.returns
unfolding labels_of
returns c =
    let i = c.loop-k.invariant in
    let end : c.loop-k.k ≡ min c.args.n max_nodes = omega arith in
    i.stage.labels ∙ ap₂ (labelled max_nodes (edge_of c.args.t.now)) i.width end
