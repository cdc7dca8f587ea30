-- `Ways::search` meets its contract: round by round, to the last one or to one in which no node joins.
use mathlib.Core.Path.{◌≡◌}
use native.Mathlib.Omega.{arith}
use Rattle.nodes.proofs.Members.{is-empty}
use Rattle.rows.specs.Steps.{rounds}
use Rattle.rows.proofs.Rounds.{searching_none, searching_more, searching_still}
use Rattle.rows.proofs.Frontier.{frontier_none, frontier_more, asking}
use Rattle.rows.proofs.Ways.search.Goals as goal

pub loop-init : goal.loop-init
loop-init c = (
  searching_none c.requires.0 c.start-s.ensures,
  frontier_none _ _ _ c.start-s.ensures c.one-new_free.ensures c.one-new_falling.ensures,
)

pub round-next-requires : goal.round-next-requires
round-next-requires c =
    let t = c.requires.1 in
    asking _ _ c.loop.invariant.1 t.over t.under c.touching-rise.ensures c.touching-fall.ensures

pub returns-then-is_empty : goal.returns-then-is_empty
returns-then-is_empty c =
    searching_still c.requires.0 _ c.loop.invariant.0 (omega arith) c.round-next.ensures c.difference-new_free.ensures c.difference-new_falling.ensures
    c.union.ensures (is-empty c.is_empty.ensures c.if-is_empty.true)

pub loop-preserved : goal.loop-preserved
loop-preserved c = (
  searching_more c.requires.0 _ c.loop.invariant.0 c.round-next.ensures,
  frontier_more _ _ _ c.round-next.ensures c.difference-new_free.ensures c.difference-new_falling.ensures,
)

pub returns : goal.returns
returns c =
    let l = c.loop in
    let e : l.counter ≡ rounds = omega arith in
    rw e at l.invariant.0
