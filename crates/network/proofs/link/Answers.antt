-- `network::link` meets its contract: a pair outside the limits adds nothing, any other adds both directions.
use native.Mathlib.Omega.{arith}
use Rattle.network.proofs.Links.{joins-ends, joins-ne, link-none, link-one}
use Rattle.network.proofs.link.Goals as goal
use Rattle.network.proofs.link.Goals.{then-a-b-via-then-a-b, then-a-b-via-else-a-b+then-a-ge-MAX_NODES, then-a-b-via-else-a-b+else-a-ge-MAX_NODES+then-b-ge-MAX_NODES}

pub returns-then-a-b-clause-links : goal.returns-then-a-b-clause-links
returns-then-a-b-clause-links c =
    link-none _ _ _ (λ x y k l j.
    elim c.then-a-b.branch [
      | then-a-b-via-then-a-b w ↦ joins-ne _ _ x y j w.if-a-b.true
      | then-a-b-via-else-a-b+then-a-ge-MAX_NODES w ↦ joins-ends _ _ x y j (λ e f. omega arith) (λ e f. omega arith)
      | then-a-b-via-else-a-b+else-a-ge-MAX_NODES+then-b-ge-MAX_NODES w ↦ joins-ends _ _ x y j (λ e f. omega arith) (λ e f. omega arith)
    ])

pub returns-clause-links : goal.returns-clause-links
returns-clause-links c =
    let a = c.args in
    let first = rw c.neighbours.ensures at c.with.ensures in
    let second = rw c.neighbours-2.ensures at c.with-2.ensures in
    link-one a.t.now a.a a.b c.requires c.if-a-b.false (omega arith) (omega arith) first second
