-- `turns::rising` meets its contract: the neighbours of v whose label is above v's.
use mathlib.Core.Path.{◌∙◌, ap}
use mathlib.Core.Bool.{Bool}
use Prim.Native.Nat.{ℕ}
use Rattle.std.proofs.Common.{rules}
use lib.ListN.{get_or}
use Rattle.finite.specs.Truth.{◌&◌, below}
use Rattle.finite.specs.Sets.{has, set_of}
use Rattle.lawful.specs.Turn.{rises}
use Rattle.nodes.specs.Limits.{max_nodes}
use Rattle.network.specs.Table.{edge_of}
use Rattle.turns.proofs.rising.Goals as goal

pub returns : goal.returns
unfolding rises edge_of below
returns c =
    let a = c.args in
    let test : ℕ → Bool = λ u. below (get_or a.labels.now a.v 0) (get_or a.labels.now u 0) in
    c.those.ensures test (λ u b p. search rules) ∙ ap (λ (w : ℕ). set_of max_nodes (λ u. has w u & test u)) c.neighbours.ensures
