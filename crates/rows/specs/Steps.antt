-- The steps of the search for one column, as the code takes them over sets, how far it has come after k rounds, and how columns make a table.
-- Only the contracts of private functions cite these.
use Rattle.std.specs.Prelude.{◌≡◌, Bool, true, false, List, ℕ, ◌+◌, ◌/◌, ◌%◌, ◌<◌, get_or, set, replicate}
use Rattle.finite.specs.Truth.{◌&◌, ◌or◌, non, same, below}
use Rattle.finite.specs.Search.{any, least}
use Rattle.finite.specs.Sets.{has, set_of}
use Rattle.finite.specs.Lists.{tabulate}
use Rattle.nodes.specs.Limits.{max_nodes}
use Rattle.nodes.specs.Members.{members, set_with}
use Rattle.network.specs.Table.{edge_of, table_from}
use Rattle.lawful.specs.Turn.{rises, falls}
use Rattle.lawful.specs.Entry.{Layer, layer, none, entry}
use Rattle.rows.specs.declared.Ways.{Ways}
use Rattle.rows.specs.declared.Side.{Side}
use Rattle.rows.specs.declared.Search.{Search}
use Rattle.rows.specs.Tables.{table_size}

-- a where the test passes, else b
abbrev pub pick : Bool → ℕ → ℕ → ℕ
pick true a b = a
pick false a b = b

-- the destination alone, its own entry
unfoldable pub search_from : ℕ → Search
search_from t =
    let side : Side = record { members = set_with (set_of max_nodes (same t)); entries = set (replicate max_nodes none) t t } in
    record { free = side; falling = side }

-- a hop from v leads to u: up into the free set, or down into the falling one
abbrev pub leads_to : List ℕ → List ℕ → ℕ → ℕ → ℕ → ℕ → Bool
leads_to up down free falling v u = edge_of up v u & has free u or edge_of down v u & has falling u

-- the lowest such node
unfoldable pub lead_of : List ℕ → List ℕ → ℕ → ℕ → ℕ → ℕ
lead_of up down free falling v = least max_nodes (leads_to up down free falling v)

-- the rows in which v has joined those of the nodes of the set
unfoldable pub entered_of : ℕ → ℕ → List ℕ → List ℕ
entered_of v set from = table_from (λ u a. edge_of from u a or has set u & same v a)

-- the rows turned round: for each node those from which one of these hops leads to it
unfoldable pub into_of : List ℕ → List ℕ
into_of ways = table_from (λ u v. edge_of ways v u)

-- for each node the neighbours that a hop rises to and those that it falls to, and both turned round
unfoldable pub ways_of : (ℕ → ℕ → Bool) → (ℕ → ℕ) → Ways
ways_of edge label =
    let up : List ℕ = table_from (rises edge label) in
    let down : List ℕ = table_from (falls edge label) in
    record { up = up; down = down; over = into_of up; under = into_of down }

-- what is turned round is what a hop rises and falls to
pub record Turned (ways : Ways) : Type 0 where
  pub over : ways.over ≡ into_of ways.up
  pub under : ways.under ≡ into_of ways.down

-- v is in the row of a node of the set
unfoldable pub touches : List ℕ → ℕ → ℕ → Bool
touches from set v = any max_nodes (λ u. has set u & edge_of from u v)

-- a node from which a hop leads into the two sets is a member, or worth asking
abbrev pub Worth : List ℕ → List ℕ → ℕ → ℕ → ℕ → (ℕ → Bool) → Type 0
Worth up down free falling joined worth =
    (v : ℕ) → v < max_nodes → below (lead_of up down free falling v) max_nodes ≡ true → has joined v or worth v ≡ true

-- who is asked in a round: for the free class the nodes of both sets, for the falling one those of the second alone
pub record Asking (up down : List ℕ) (s : Search) (rise fall : ℕ) : Type 0 where
  pub free : Worth up down (members s.free.members) (members s.falling.members) (members s.free.members) (λ v. has rise v or has fall v)
  pub falling : Worth up down 0 (members s.falling.members) (members s.falling.members) (has fall)

-- one class of a round: every node with such a hop joins, and has the lowest for its entry
unfoldable pub half_of : List ℕ → List ℕ → ℕ → ℕ → Side → Side
half_of up down free falling side = record {
  members = set_with (set_of max_nodes (λ v. has (members side.members) v or below (lead_of up down free falling v) max_nodes));
  entries = tabulate max_nodes (λ v.
      pick (below (lead_of up down free falling v) max_nodes & non (has (members side.members) v)) (lead_of up down free falling v) (get_or side.entries v 0));
}

-- one round: what falls already has no free set to rise into
unfoldable pub round_of : List ℕ → List ℕ → Search → Search
round_of up down s = record {
  free = half_of up down (members s.free.members) (members s.falling.members) s.free;
  falling = half_of up down 0 (members s.falling.members) s.falling;
}

-- one class of the search, where w is the set of its members
unfoldable pub side_at : (ℕ → ℕ → Bool) → (ℕ → ℕ) → ℕ → Bool → ℕ → Side
side_at edge label t class w = record {
  members = set_with w;
  entries = tabulate max_nodes (λ v. pick (has w v) (entry max_nodes edge label t class v) none);
}

-- after so many rounds no node joins
abbrev pub rounds : ℕ
rounds = max_nodes + max_nodes

-- the search after k rounds: the members of layer k have their entries
unfoldable pub search_at : (ℕ → ℕ → Bool) → (ℕ → ℕ) → ℕ → ℕ → Search
search_at edge label t k =
    let s : Layer = layer max_nodes edge label t k in
    record { free = side_at edge label t true s.free; falling = side_at edge label t false s.fall }

-- what is so of every network whose ways these are
abbrev pub OfWays : Ways → ((ℕ → ℕ → Bool) → (ℕ → ℕ) → Type 0) → Type 0
OfWays ways P = (edge : ℕ → ℕ → Bool) (label : ℕ → ℕ) → ways ≡ ways_of edge label → P edge label

-- the table of m columns in which column d is this one
unfoldable pub placed_of : ℕ → ℕ → List ℕ → List ℕ → List ℕ
placed_of m d column table =
    tabulate table_size (λ i. pick (same (i % m) d & below (i / m) m) (get_or column (i / m) 0) (get_or table i 0))
