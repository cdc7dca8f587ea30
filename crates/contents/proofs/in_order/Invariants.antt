-- `contents::in_order` meets its contract. The reader stands at the entry, those passed fit, and `begin` is where the next body is to begin.
use mathlib.Core.Path.{◌≡◌}
use Prim.Native.Nat.{◌≤◌}
use Rattle.contents.proofs.Fitted.{Fitted}
use Rattle.contents.proofs.in_order.Given as goal

abbrev pub invariant-loop-i : goal.invariant-loop-i
invariant-loop-i l = record {
  image : l.reader.image.now ≡ l.image;
  next : l.reader.next ≡ l.i;
  fitted : Fitted l.image l.k l.begin l.i;
  few : l.k ≤ 255;
}
