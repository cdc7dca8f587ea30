-- `hops::row` meets its contract: the part is that row of the table of its class, and nothing where the arguments have a fault.
use mathlib.Core.Path.{◌≡◌, sym, ◌∙◌}
use mathlib.Core.Bool.{true}
use native.Mathlib.Nat.{mul-le-mul}
use native.Mathlib.Omega.{arith}
use Rattle.hops.specs.Row.{row_known}
use Rattle.hops.proofs.Lookup.{Faultless, known_faultless, row-refused, row-part, row-end, free-table, falling-table}
use Rattle.hops.proofs.row.Goals as goal
use Rattle.hops.proofs.row.Goals.{Else-not-known}

-- past the first test the arguments have no fault, and the row ends within its table
good : (c : Else-not-known) →
    let a = c.args in
    row_known a.free.now a.falling.now a.n a.node a.class ≡ true
good c = sym c.known.ensures ∙ c.if-not-known.false

faultless : (c : Else-not-known) →
    let a = c.args in
    Faultless a.free.now a.falling.now a.n a.node a.class
faultless c = known_faultless _ _ _ _ _ (good c)

pub returns-then-not-known : goal.returns-then-not-known
returns-then-not-known c = sym (row-refused _ _ _ _ _ (sym c.known.ensures ∙ c.if-not-known.true))

pub overflow_mul-from : goal.overflow_mul-from
overflow_mul-from c = let k = faultless c in let e = row-end _ _ _ _ _ k in let b = mul-le-mul k.most k.most in omega arith

pub overflow_add-to : goal.overflow_add-to
overflow_add-to c = let k = faultless c in let e = row-end _ _ _ _ _ k in let b = mul-le-mul k.most k.most in omega arith

pub slice_bounds-result-end-then-class-eq0 : goal.slice_bounds-result-end-then-class-eq0
slice_bounds-result-end-then-class-eq0 c = let k = faultless (goal.at.slice_bounds-result-end-then-class-eq0 c).Else-not-known in let e = row-end _ _ _ _ _ k in omega arith

pub slice_bounds-result-end-else-class-eq0 : goal.slice_bounds-result-end-else-class-eq0
slice_bounds-result-end-else-class-eq0 c = let k = faultless (goal.at.slice_bounds-result-end-else-class-eq0 c).Else-not-known in let e = row-end _ _ _ _ _ k in omega arith

pub returns-then-class-eq0 : goal.returns-then-class-eq0
returns-then-class-eq0 c = row-part _ _ _ _ _ _ (good (goal.at.returns-then-class-eq0 c).Else-not-known) (free-table _ _ _ c.if-class-eq0.true)

pub returns-else-class-eq0 : goal.returns-else-class-eq0
returns-else-class-eq0 c = row-part _ _ _ _ _ _ (good (goal.at.returns-else-class-eq0 c).Else-not-known) (falling-table _ _ _ c.if-class-eq0.false)
