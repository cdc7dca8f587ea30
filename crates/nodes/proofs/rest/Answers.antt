-- `nodes::rest` meets its contract: a word is its lowest member and the rest.
use mathlib.Core.Path.{◌≡◌, sym, ◌∙◌, ap}
use Prim.Native.Nat.{ℕ, ◌+◌}
use native.Mathlib.Omega.{arith}
use Rattle.finite.specs.Truth.{same}
use Rattle.finite.specs.Search.{least}
use Rattle.finite.specs.Sets.{has, set_of, without}
use Rattle.finite.proofs.Sets.{has_0}
use Rattle.nodes.specs.Limits.{max_nodes}
use Rattle.nodes.proofs.Words.{member-rest, without-none, lowest_in}
use Rattle.nodes.proofs.rest.Goals as goal

-- the word is what `one` answers and the rest
parts : (c : goal.After-one) →
    c.args.w ≡ c.one.result + set_of max_nodes (without (has c.args.w) (least max_nodes (has c.args.w)))
parts c =
    let e = member-rest max_nodes c.args.w _ c.ranges.w.fits (lowest_in max_nodes c.args.w c.ranges.w.fits c.if-w-eq0.false) in
    let o = c.one.ensures ∙ ap (λ (v : ℕ). set_of max_nodes (same v)) c.lowest.ensures in
    omega arith

pub returns-then-w-eq0 : goal.returns-then-w-eq0
returns-then-w-eq0 c =
    let z = c.if-w-eq0.true in
    sym z ∙ without-none max_nodes c.args.w _ c.ranges.w.fits (ap (λ (x : ℕ). has x (least max_nodes (has c.args.w))) z ∙ has_0 _)

pub overflow_sub-result : goal.overflow_sub-result
overflow_sub-result c = omega (arith, parts c)

pub returns : goal.returns
returns c = omega (arith, parts c)
