-- `draining::drain` meets its contract, and ends: each pick leaves one move less to make of demand 3's sum.
use Rattle.std.specs.Prelude.{Ok}
use mathlib.Core.Path.{◌≡◌, refl, sym, ◌∙◌}
use Prim.Native.Nat.{◌*◌, min}
use native.Mathlib.Omega.{arith}
use Rattle.nodes.specs.Limits.{max_nodes}
use Rattle.messages.specs.Sizes.{node_channels}
use Rattle.messages.specs.Step.{is_delivered}
use Rattle.messages.specs.Ready.{all_delivered}
use Rattle.start.specs.Start.{start_fault, fresh_of}
use Rattle.start.proofs.Cases.{fine-fresh}
use Rattle.draining.proofs.Answers.{ended_refused, ended_fine, fault_ends, fine_ends}
use Rattle.draining.proofs.Running.{running_fresh, running_all, runs_on, fewer_left}
use Rattle.draining.proofs.drain.Goals as goal
use Rattle.draining.proofs.drain.Goals.{After-capped-span}

-- what the start leaves
begins : (c : After-capped-span) → (start_fault c.args.image.now c.args.list.now ≡ Ok tt) × (c.in-Ok.fresh ≡ fresh_of c.args.image.now c.args.list.now)
begins c = fine-fresh _ _ (sym c.fresh.ensures ∙ c.in-Ok.is)

spans : (c : After-capped-span) → 66 * c.capped-span.result ≡ node_channels * min (fresh_of c.args.image.now c.args.list.now).nodes max_nodes
spans c = let e = c.capped-span.ensures in rw (← (begins c).1) (omega arith)

pub returns-in-Err : goal.returns-in-Err
returns-in-Err c = ended_refused _ _ _ _ (fault_ends _ _ _ c.fresh.ensures c.in-Err.is) refl

pub loop-last-init : goal.loop-last-init
loop-last-init c = let b = begins c in rw b.1 (running_fresh _ _ b.0 _)

pub loop-last-smaller : goal.loop-last-smaller
unfolding all_delivered is_delivered
loop-last-smaller c =
    let a = (goal.at.loop-last-smaller c).After-capped-span in
    fewer_left _ _ (begins a).0 c.loop-last.invariant (spans a) c.pick-next.ensures (sym c.all_delivered_in.ensures ∙ c.loop-last-test.true)

pub loop-last-preserved : goal.loop-last-preserved
unfolding all_delivered is_delivered
loop-last-preserved c =
    let a = (goal.at.loop-last-preserved c).After-capped-span in
    runs_on _ _ (begins a).0 c.loop-last.invariant (spans a) c.pick-next.ensures (sym c.all_delivered_in.ensures ∙ c.loop-last-test.true)

pub returns : goal.returns
unfolding all_delivered is_delivered
returns c =
    let a = (goal.at.returns c).After-capped-span in
    let b = begins a in
    ended_fine _ _ _ _ (fine_ends _ _ _ b.0 (running_all _ _ b.0 c.loop-last.invariant (sym c.all_delivered_in.ensures ∙ c.loop-last-test.false))) refl
