-- `contents::in_order` meets its contract: each test is a part of what is asked of contents in order.
use mathlib.Core.Path.{◌≡◌, sym, ap, ◌∙◌}
use Prim.Native.Nat.{ℕ, ◌+◌}
use native.Mathlib.Omega.{arith}
use borrow.Author.Tests.{leb-true, le-leb, ne_eqb}
use Rattle.std.proofs.Common.{Option}
use Rattle.finite.proofs.Truth.{no_tf, iff, refute}
use Rattle.format.specs.declared.Entry.{Entry}
use Rattle.format.specs.Contents.{stored_at, entry_of}
use Rattle.format.proofs.Contents.{in_order_parts}
use Rattle.contents.specs.declared.Reader.{Reader}
use Rattle.contents.proofs.Fitted.{fitted_none, fitted_more, found_fits, found_one, length-low, at_last, fitted_all}
use Rattle.contents.proofs.in_order.Goals.{After-step, then-byte-ne1-via-then-byte-ne1, then-byte-ne1-via-else-byte-ne1+then-from-k}
use Rattle.contents.proofs.in_order.Goals as goal

pub returns-then-image-gt-MAX_IMAGE : goal.returns-then-image-gt-MAX_IMAGE
returns-then-image-gt-MAX_IMAGE c = sym (refute _ (λ h. let p = in_order_parts _ _ h in omega arith))

pub returns-then-byte-ne1 : goal.returns-then-byte-ne1
returns-then-byte-ne1 c =
    sym (refute _ (λ h.
    let p = in_order_parts _ _ h in
    elim c.then-byte-ne1.branch [ then-byte-ne1-via-then-byte-ne1 w ↦ omega arith | then-byte-ne1-via-else-byte-ne1+then-from-k w ↦ omega arith ]))

pub loop-i-init : goal.loop-i-init
loop-i-init c = record {
  image = ap (λ (r : Reader). r.image.now) c.new-reader.ensures;
  next = ap (λ (r : Reader). r.next) c.new-reader.ensures;
  fitted = fitted_none _ _;
  few = omega (arith, (c.type_inv.image 1).fits);
}

-- what the reader's step finds, and where it then stands
found : (c : After-step) → c.step.result ≡ entry_of c.args.image.now c.loop-i.i
found c = let inv = c.loop-i.invariant in let e = ap (λ (x : Option Entry × Reader). x.0) c.step.ensures in rw (← inv.image, ← inv.next) e

pub returns-in_default : goal.returns-in_default
returns-in_default c =
    sym (refute _ (λ h. c.in_default.not-Some _ (found_fits c.loop-i.invariant.fitted (found (goal.at.returns-in_default c).After-step) (omega arith) h).0))

pub returns-then-not-entry_fits : goal.returns-then-not-entry_fits
returns-then-not-entry_fits c =
    sym (refute _ (λ h.
    let p = found_fits c.loop-i.invariant.fitted (found (goal.at.returns-then-not-entry_fits c).After-step) (omega arith) h in
    let e : c.in-Some.entry ≡ stored_at c.args.image.now c.loop-i.i = cc in
    no_tf (c.entry_fits.ensures.1 (rw e (p.1, p.2, p.3))) c.if-not-entry_fits.true))

pub overflow_add-begin-in-loop-i : goal.overflow_add-begin-in-loop-i
overflow_add-begin-in-loop-i c =
    let inv = c.loop-i.invariant in
    let low = inv.fitted.low in
    let few = inv.few in
    let size = length-low _ _ (sym c.in-Some.is ∙ found (goal.at.overflow_add-begin-in-loop-i c).After-step) (λ i. (c.type_inv.image i).fits) in
    omega arith

pub loop-i-preserved : goal.loop-i-preserved
loop-i-preserved c =
    let inv = c.loop-i.invariant in
    let on = found_one _ c.in-Some.ensures in
    let there = sym c.in-Some.is ∙ found (goal.at.loop-i-preserved c).After-step in
    record {
      image = on.1 ∙ inv.image;
      next = on.2 ∙ ap (λ (n : ℕ). n + 1) inv.next;
      fitted = fitted_more inv.fitted there (λ i. (c.type_inv.image i).fits) (c.entry_fits.ensures.0 c.if-not-entry_fits.false);
      few = inv.few;
    }

pub returns-then-begin-image : goal.returns-then-begin-image
returns-then-begin-image c =
    let inv = c.loop-i.invariant in
    iff _ _ (λ t. let l = leb-true _ _ t in fitted_all inv.fitted (omega arith) (omega arith) (omega arith) (omega arith) (omega arith) (omega arith))
    (λ h. let p = in_order_parts _ _ h in let long = p.long in le-leb _ _ (omega arith))

pub returns-else-begin-image : goal.returns-else-begin-image
returns-else-begin-image c =
    ne_eqb _ _ (omega arith) ∙ sym (refute _ (λ h. let p = in_order_parts _ _ h in let e = at_last c.loop-i.invariant.fitted (omega arith) in omega arith))
