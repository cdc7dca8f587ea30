-- `cabling::lowest_apart` meets its contract: the lowest node outside what is reached, where it is one of the first n.
use mathlib.Core.Path.{◌≡◌, sym}
use native.Mathlib.Omega.{arith}
use Rattle.finite.specs.Truth.{◌&◌, below}
use Rattle.finite.specs.Search.{least}
use Rattle.finite.proofs.Search.{least-found-among, least-none-among}
use Rattle.finite.proofs.Lowest.{lowest-found, lowest-none}
use Rattle.nodes.specs.Limits.{max_nodes}
use Rattle.network.specs.Table.{edge_of}
use Rattle.cabling.specs.Faults.{unreached}
use Rattle.cabling.proofs.Apart.{unreached_past, apart_word}
use Rattle.cabling.proofs.lowest_apart.Goals.{After-lowest-v}
use Rattle.cabling.proofs.lowest_apart.Goals as goal

-- what the words come to
lowest : (c : After-lowest-v) →
    c.lowest-v.result ≡ least max_nodes (λ u. below u c.args.n & unreached max_nodes (edge_of c.args.t.now) u)
lowest c =
    apart_word _ _ c.one.ensures c.flood-seen.ensures c.first.ensures c.difference.ensures c.lowest-v.ensures

pub returns-then-v-n : goal.returns-then-v-n
returns-then-v-n c =
    sym (lowest-found _ _ (sym (least-found-among _ max_nodes (unreached_past _) (lowest (goal.at.returns-then-v-n c).After-lowest-v) c.if-v-n.true)) c.if-v-n.true)

pub returns-else-v-n : goal.returns-else-v-n
returns-else-v-n c =
    let e = least-none-among _ max_nodes (unreached_past _) (lowest (goal.at.returns-else-v-n c).After-lowest-v) c.if-v-n.false in
    sym (lowest-none _ _ (omega arith))
