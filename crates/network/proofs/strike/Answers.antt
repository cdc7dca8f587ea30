-- `network::strike` meets its contract: every row has lost v, and its own is emptied.
use native.Mathlib.Omega.{arith}
use Rattle.network.proofs.Table.{struck-all}
use Rattle.network.proofs.strike.Goals as goal

pub returns : goal.returns
returns c = struck-all c.args.v c.first.ensures c.without-others.ensures c.loop-row.invariant (omega arith) c.none.result c.none.ensures c.put.ensures
