-- `results::place` meets its contract: no room, nothing written; else the bytes at the front.
use Rattle.std.proofs.Common.{arith, rules}
use Rattle.results.proofs.Placed.{no_room, room}
use Rattle.results.proofs.place.Goals as goal

pub returns-then-buffer-bytes : goal.returns-then-buffer-bytes
returns-then-buffer-bytes c = let a = c.args in no_room a.bytes.now a.buffer.now c.if-buffer-bytes.true

pub returns : goal.returns
returns c = room _ _ (omega arith) (search rules)
