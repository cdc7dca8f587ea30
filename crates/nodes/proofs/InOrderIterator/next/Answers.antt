-- The walk over a set's members ends: at each step one less is left.
use Prim.Native.Nat.{◌^◌, ◌<◌}
use native.Mathlib.Omega.{arith}
use Rattle.nodes.specs.Limits.{max_nodes}
use Rattle.nodes.proofs.Words.{rest-fewer}
use Rattle.nodes.proofs.Members.{some_left}
use Rattle.nodes.proofs.InOrderIterator.next.Goals as goal

pub returns-clause-goes : goal.returns-clause-goes
returns-clause-goes c =
    let l : c.args.self.now.left < 2 ^ max_nodes = omega arith in
    let f = rest-fewer max_nodes l (some_left c.is_empty.ensures c.if-is_empty.false) c.rest-self.ensures in
    record { on = λ _. (tt, tt, f); keeps = tt; rests = λ _. tt }
