-- `route::followed` meets its contract. The invariant: what is laid, and the nodes from the message's own on, are the whole route.
use Rattle.std.proofs.Common.{◌≡◌, List, ℕ, ◌+◌, ◌<◌, length}
use Rattle.laid.specs.Laid.{page}
use Rattle.laid.specs.Lent.{page_of}
use Rattle.route.proofs.Following.{Following}
use Rattle.route.proofs.followed.Given as goal

abbrev pub invariant-loop-k : goal.invariant-loop-k
invariant-loop-k l = record {
  same_buffer : l.out.bytes.ghost_name ≡ l.initial.out.bytes.ghost_name;
  following : (b : List ℕ) → page_of l.initial.out ≡ page b 0 → l.f.nodes + l.f.nodes < length b → Following l.f l.s l.t b (page_of l.out) l.at.node l.at.class l.k;
}
