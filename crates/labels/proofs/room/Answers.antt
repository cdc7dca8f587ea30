-- `labels::room` meets its contract: the sum over the links, taken one by one.
use mathlib.Core.Path.{◌≡◌, ◌∙◌, ap, ap₂}
use mathlib.Core.List.{List}
use Prim.Native.Nat.{ℕ, ◌+◌, ◌*◌, ◌-◌, ◌≤◌}
use native.Mathlib.Nat.{zero-add, mul-le-mul}
use native.Mathlib.Omega.{arith}
use lib.Dec.{leb}
use Rattle.finite.specs.Sum.{sum_if}
use Rattle.finite.specs.Sets.{has}
use Rattle.finite.proofs.Sum.{count-bound, sum_if-within}
use Rattle.nodes.specs.Limits.{max_nodes}
use Rattle.nodes.specs.Members.{members}
use Rattle.nodes.proofs.Words.{word_lt}
use Rattle.network.specs.Table.{neighbours_of, edge_of}
use Rattle.labels.specs.Links.{room_by}
use Rattle.labels.proofs.Members.{summing_more, summing_all}
use Rattle.labels.proofs.room.Invariants.{around}
use Rattle.labels.proofs.room.Goals as goal

around-le : (t : List ℕ) (u : ℕ) → around t u ≤ max_nodes
around-le t u = let b = count-bound max_nodes (edge_of t u) in omega arith

sum-start : (t : List ℕ) (v : ℕ) {w : ℕ} → w ≡ neighbours_of t v → 0 + sum_if max_nodes (has w) (around t) ≡ sum_if max_nodes (edge_of t v) (around t)
unfolding edge_of
sum-start t v e = zero-add _ ∙ ap (λ (x : ℕ). sum_if max_nodes (has x) (around t)) e

pub loop-u-init : goal.loop-u-init
loop-u-init c =
    rw c.into_iter-u-iterator.ensures.into_iter_gives (sum-start _ _ (c.each-u-items.ensures ∙ c.neighbours.ensures), omega arith)

pub overflow_add-sum : goal.overflow_add-sum
overflow_add-sum c =
    let t : List ℕ = c.args.t.now in
    let b = sum_if-within max_nodes max_nodes (edge_of t c.args.v) (around t) (around-le t) in
    let d = count-bound max_nodes (edge_of t c.in-Some.u) in
    let i = c.loop-u.invariant.0 in
    omega arith

pub loop-u-preserved : goal.loop-u-preserved
loop-u-preserved c =
    let s = c.in-Some.ensures.steps in
    summing_more max_nodes (around c.args.t.now) _ c.loop-u.sum (members c.loop-u.u-iterator.left) c.loop-u.invariant s.0 s.1
    (c.saturating_sub-sum.ensures ∙ ap (λ (x : ℕ). x - 1) c.degree.ensures) s.2 (word_lt max_nodes _ s.2)

pub overflow_mul-result : goal.overflow_mul-result
overflow_mul-result c =
    let t : List ℕ = c.args.t.now in
    let b = count-bound max_nodes (edge_of t c.args.v) in
    let m = mul-le-mul {n₁ = c.degree-d.result} {m₁ = c.saturating_sub.result} {n₂ = max_nodes} {m₂ = max_nodes} (omega arith) (omega arith) in
    omega arith

pub returns : goal.returns
unfolding room_by
returns c =
    ap₂ leb (ap₂ ◌*◌ c.degree-d.ensures (c.saturating_sub.ensures ∙ ap (λ (x : ℕ). x - 1) c.degree-d.ensures))
    (summing_all max_nodes _ _ _ _ c.loop-u.invariant c.in-None.ensures.steps.0)
