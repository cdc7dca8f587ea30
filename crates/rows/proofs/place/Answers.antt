-- `rows::place` meets its contract: row by row.
use mathlib.Core.Path.{◌≡◌, ◌∙◌, ap}
use mathlib.Core.List.{List}
use Prim.Native.Nat.{ℕ}
use native.Mathlib.Omega.{arith}
use lib.ListN.{length, get_or}
use lib.Seq.{length-take-le}
use Rattle.std.proofs.lemmas.List.{get_or-take}
use Rattle.rows.proofs.Grid.{placing_none, placing_more, placing_all}
use Rattle.rows.proofs.place.Goals as goal
use Rattle.rows.proofs.place.Goals.{At-loop-v}

-- the column has an entry for each row
rows : (l : At-loop-v) → length l.front-entry-items.result.now ≡ l.args.m
rows l = ap length l.front-entry-items.ensures ∙ length-take-le _ _ (omega arith)

pub loop-v-init : goal.loop-v-init
loop-v-init c = placing_none _ _ _ c.requires.2

pub loop-v-preserved : goal.loop-v-preserved
loop-v-preserved c =
    let n = rows (goal.at.loop-v-preserved c).At-loop-v in
    placing_more c.loop-v.invariant (omega arith) (omega arith) (omega arith)
    (ap (λ (x : List ℕ). get_or x c.loop-v.v 0) c.front-entry-items.ensures ∙ get_or-take c.args.m c.args.column.now c.loop-v.v 0 (omega arith))

pub returns : goal.returns
returns c = let n = rows (goal.at.returns c).At-loop-v in placing_all c.loop-v.invariant (omega arith)
