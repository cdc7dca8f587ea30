-- `writing::laying::front` meets its contract: the contents, then N, a zero byte and the pairs.
use Rattle.std.proofs.Common.{arith}
use Rattle.writing.proofs.Pieces.{head-length, front_length, front-lays}
use Rattle.writing.proofs.laying.front.Goals as goal

pub returns-clause-laid : goal.returns-clause-laid
returns-clause-laid c = λ b p h.
    let a = c.args in
    let k = head-length a.sizes.now in
    let m = front_length a.sizes.now a.cabling.now.nodes a.cabling.now.pairs.now in
    front-lays _ _ _ (c.contents_of.ensures.laid b p (omega arith)) c.put.ensures.laid c.put-2.ensures.laid h
