-- `image::front_fault` meets its contract: each early return is one of the first checks.
use mathlib.Core.Path.{◌∙◌, sym}
use mathlib.Core.Logic.{inl, inr}
use native.Mathlib.Omega.{arith}
use Rattle.image.proofs.Faults.{front-count, front_shape, front-fine}
use Rattle.image.proofs.front_fault.Goals as goal

pub returns-then-n-lt2 : goal.returns-then-n-lt2
returns-then-n-lt2 c = sym (front-count _ (inl (let e = c.nodes_in-n.ensures in let h = c.if-n-lt2.true in omega arith)))

pub returns-then-n-gt-MAX_NODES : goal.returns-then-n-gt-MAX_NODES
returns-then-n-gt-MAX_NODES c = sym (front-count _ (inr (let e = c.nodes_in-n.ensures in let h = c.if-n-gt-MAX_NODES.true in omega arith)))

pub returns-then-zero_in-ne0 : goal.returns-then-zero_in-ne0
returns-then-zero_in-ne0 c =
    let e = c.nodes_in-n.ensures in
    let l = c.if-n-lt2.false in
    let h = c.if-n-gt-MAX_NODES.false in
    sym (front_shape _ (omega arith, omega arith) (λ z. c.if-zero_in-ne0.true (c.zero_in.ensures ∙ z)))

pub returns : goal.returns
returns c =
    let e = c.nodes_in-n.ensures in
    let l = c.if-n-lt2.false in
    let h = c.if-n-gt-MAX_NODES.false in
    sym (front-fine _ (omega arith, omega arith) (sym c.zero_in.ensures ∙ c.if-zero_in-ne0.false))
