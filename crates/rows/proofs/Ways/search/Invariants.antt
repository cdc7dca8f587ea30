-- `Ways::search` meets its contract. The invariant: after k rounds the members of layer k have their entries, and any other node leads
-- only to what joined last.
use Rattle.nodes.specs.Members.{members}
use Rattle.rows.proofs.Rounds.{Searching}
use Rattle.rows.proofs.Frontier.{Frontier}
use Rattle.rows.proofs.Ways.search.Given as goal

abbrev pub invariant-loop : goal.invariant-loop
invariant-loop l =
    Searching l.t l.self l.s l.counter × Frontier l.self.up l.self.down l.s (members l.new_free) (members l.new_falling)
