-- `labels::better_of` meets its contract: each reason why v does not take the place of the best so far, and that otherwise it does.
use mathlib.Core.Path.{sym, ◌∙◌, ap}
use Prim.Native.Nat.{ℕ}
use Rattle.std.proofs.Common.{rules}
use Rattle.std.specs.Prelude.{Some}
use Rattle.labels.proofs.Better.{no_lower, has_lower, not_passing, no_room, splitting, fits}
use Rattle.labels.proofs.better_of.Goals as goal
use Rattle.labels.proofs.better_of.Goals.{then-is_some_and-via-then-is_some_and, then-is_some_and-via-else-is_some_and+then-not-room, then-is_some_and-via-else-is_some_and+else-not-room+then-splits}

pub returns-then-is_some_and : goal.returns-then-is_some_and
returns-then-is_some_and c =
    elim c.then-is_some_and.branch [
      | then-is_some_and-via-then-is_some_and w ↦
          no_lower _ _ _ c.args.best c.degree-d.result c.is_some_and.ensures (λ b p. search rules) c.degree-d.ensures w.if-is_some_and.true
      | then-is_some_and-via-else-is_some_and+then-not-room w ↦ not_passing _ _ _ c.args.best (no_room _ _ _ _ (sym w.room.ensures ∙ w.if-not-room.true))
      | then-is_some_and-via-else-is_some_and+else-not-room+then-splits w ↦
          not_passing _ _ _ c.args.best (splitting _ _ _ _ (sym w.splits.ensures ∙ w.if-splits.true))
    ]

pub returns : goal.returns
returns c =
    let e = c.degree-d.ensures in
    ap (λ (x : ℕ). Some (record { degree = x; node = c.args.v })) e
    ∙ has_lower _ _ _ c.args.best c.degree-d.result c.is_some_and.ensures (λ b p. search rules) e c.if-is_some_and.false
    (fits _ _ _ _ c.requires (sym c.room.ensures ∙ c.if-not-room.false) (sym c.splits.ensures ∙ c.if-splits.false))
