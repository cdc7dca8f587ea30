-- `hops::known` meets its contract: each test finds one fault.
use mathlib.Core.Path.{sym}
use native.Mathlib.Omega.{arith}
use borrow.Author.Tests.{leb-true, le-leb}
use Rattle.finite.proofs.Truth.{iff}
use Rattle.hops.specs.Row.{few, many, free-size, falling-size, no_node}
use Rattle.hops.proofs.Lookup.{fault-unknown, known_faultless, faultless_known}
use Rattle.hops.proofs.known.Goals as goal

pub returns-then-n-lt2 : goal.returns-then-n-lt2
returns-then-n-lt2 c = sym (fault-unknown _ _ _ _ _ (few (omega arith)))

pub returns-then-n-gt-MAX_NODES : goal.returns-then-n-gt-MAX_NODES
returns-then-n-gt-MAX_NODES c = sym (fault-unknown _ _ _ _ _ (many (omega arith)))

pub returns-then-free-n : goal.returns-then-free-n
returns-then-free-n c = sym (fault-unknown _ _ _ _ _ (free-size c.if-free-n.true))

pub returns-then-falling-n : goal.returns-then-falling-n
returns-then-falling-n c = sym (fault-unknown _ _ _ _ _ (falling-size c.if-falling-n.true))

pub returns-then-n-node : goal.returns-then-n-node
returns-then-n-node c = sym (fault-unknown _ _ _ _ _ (no_node (omega arith)))

pub returns : goal.returns
returns c =
    iff _ _
    (λ t.
    let small = leb-true _ _ t in
    faultless_known _ _ _ _ _ (record {
      least = omega arith;
      most = omega arith;
      free-long = omega arith;
      falling-long = omega arith;
      node-low = omega arith;
      class_low = small;
    }))
    (λ t. le-leb _ _ (known_faultless _ _ _ _ _ t).class_low)
