-- `hops::Tables::hop` meets its contract: past the row's end, or without N labels, it is refused; else the byte decides.
use mathlib.Core.Path.{sym, ◌∙◌}
use native.Mathlib.Omega.{arith}
use Rattle.hops.proofs.Lookup.{known_faultless}
use Rattle.hops.proofs.Cases.{hop-unknown, part_past, part-known, part-onward}
use Rattle.hops.proofs.Tables.hop.Goals as goal

pub returns-then-part-destination : goal.returns-then-part-destination
returns-then-part-destination c = sym (part_past _ _ _ _ _ _ _ c.row-part.ensures (let l = c.if-part-destination.true in omega arith))

pub returns-then-self-n : goal.returns-then-self-n
returns-then-self-n c = sym (hop-unknown _ _ _ _ _ _ _ (λ k. let e = k.labelled in let d = c.if-self-n.true in omega arith))

pub onward-requires : goal.onward-requires
onward-requires c =
    let k = known_faultless _ _ _ _ _ (part-known _ _ _ _ _ c.row-part.ensures (let l = c.if-part-destination.false in omega arith)) in
    k.class_low

pub returns : goal.returns
returns c =
    c.onward.ensures ∙ sym (part-onward _ _ _ _ _ _ _ c.row-part.ensures (let l = c.if-part-destination.false in omega arith) (let q = c.if-self-n.false in omega arith))
