-- RULES 10.4: "Moves go on until every message is delivered."
use Rattle.std.specs.Prelude.{◌≡◌, true, false, List, ℕ, zero, suc}
use Rattle.cabling.specs.Cabling.{links}
use Rattle.fabric.specs.Fabric.{labels_for}
use Rattle.format.specs.Contents.{nodes_in}
use Rattle.image.specs.Image.{cabling_in}
use Rattle.messages.specs.declared.Record.{Record}
use Rattle.messages.specs.Runs.{all_moves}
use Rattle.messages.specs.Ready.{all_delivered}
use Rattle.start.specs.Start.{start_fault, fresh_of, record_after}
use Rattle.draining.specs.declared.Drained.{Drained}
use Rattle.picking.specs.Order.{pick_of}
use Rattle.picking.specs.InPlace.{pick_in}

-- the record once every message is delivered, or after k picks
unfoldable pub after : ℕ → ℕ → Record → Record
after zero seed r = r
after (suc k) seed r = elim (all_delivered r) [ true ↦ r | false ↦ after k (pick_of seed r).seed (pick_of seed r).«record» ]

-- RULES 2.3: "the sum, over all messages, of (shortest lawful hops + 3)", by the hops of the routes, for the messages of the list: so many picks a drain
-- takes. That these hops are the shortest is `sum_of_shortest` (messages/proofs/Total)
abbrev pub sum_of : List ℕ → List ℕ → ℕ
sum_of b list = all_moves (nodes_in b) (links (cabling_in b)) (labels_for (cabling_in b)) list

-- one pick in a record that stays in its place: the next seed, and the record after it
pub record PicksIn (span seed : ℕ) (old : Record) (next : ℕ) (new : Record) : Type 0 where
  pub seeded : next ≡ (pick_in span seed old).seed
  pub moved : new ≡ (pick_in span seed old).«record»

-- a whole drain, from a fresh start on
unfoldable pub end_of : List ℕ → List ℕ → ℕ → Record
end_of b list seed = after (sum_of b list) seed (fresh_of b list)

-- refused as start is, with the old record as it was
unfoldable pub drain_of : Record → List ℕ → List ℕ → ℕ → Drained
drain_of old b list seed = record { verdict = start_fault b list; «record» = record_after (start_fault b list) old (end_of b list seed) }
