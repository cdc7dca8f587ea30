-- `route::followed` meets its contract: it ends at the destination or where hop names no node; else a node more is laid.
use Rattle.std.proofs.Common.{refl, rules, arith}
use Rattle.route.proofs.Following.{following_none, following_there, following_stuck, following_more}
use Rattle.route.proofs.followed.Goals as goal

pub loop-k-init : goal.loop-k-init
loop-k-init c = record { same_buffer = refl; following = λ b p room. rw p (following_none _ _ _ b) }

pub returns-then-at-t-clause-laid : goal.returns-then-at-t-clause-laid
returns-then-at-t-clause-laid c = λ b p room.
    following_there _ _ _ (c.loop-k.invariant.following b p room) (omega arith) room c.byte.ensures.laid c.if-at-t.true

pub returns-in_default-clause-laid : goal.returns-in_default-clause-laid
returns-in_default-clause-laid c = λ b p room.
    following_stuck _ _ _ (c.loop-k.invariant.following b p room) (omega arith) room c.byte.ensures.laid c.if-at-t.false
    (rw (c.from.ensures, c.from-in-loop-k.ensures, c.from-in-loop-k-2.ensures) at c.within-asked.ensures) (rw c.in_default.is (search rules))

pub returns-in_default-2-clause-laid : goal.returns-in_default-2-clause-laid
returns-in_default-2-clause-laid c = λ b p room.
    following_stuck _ _ _ (c.loop-k.invariant.following b p room) (omega arith) room c.byte.ensures.laid c.if-at-t.false
    (rw (c.from.ensures, c.from-in-loop-k.ensures, c.from-in-loop-k-2.ensures) at c.within-asked.ensures) (rw c.in_default.is refl)

pub loop-k-preserved : goal.loop-k-preserved
loop-k-preserved c = record {
  same_buffer = search rules;
  following = λ b p room.
      following_more _ _ _ (c.loop-k.invariant.following b p room) (omega arith) room c.byte.ensures.laid c.if-at-t.false
      (rw (c.from.ensures, c.from-in-loop-k.ensures, c.from-in-loop-k-2.ensures) at c.within-asked.ensures) (search rules);
}
