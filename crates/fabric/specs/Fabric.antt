-- What a cabling becomes: its labels and its rows, computed at the width of its own N; and the struct that holds them.
use Rattle.std.specs.Prelude.{Bool, true, false, List, ℕ, replicate, Result, Ok, Err}
use Rattle.finite.specs.Lists.{padded}
use Rattle.nodes.specs.Limits.{max_nodes}
use Rattle.refusal.specs.declared.Refusal.{Refusal}
use Rattle.refusal.specs.Verdicts.{Verdict}
use Rattle.cabling.specs.Cabling.{Cabling, links}
use Rattle.cabling.specs.Faults.{fault_of}
use Rattle.rule.specs.Labels.{labels_of}
use Rattle.lawful.specs.Entry.{route_of}
use Rattle.lawful.specs.Turn.{label_in}
use Rattle.rows.specs.Tables.{table_size, rows_of}
use Rattle.fabric.specs.declared.Fabric.{Fabric}

-- RULES 4.1: "Labels 1, 2, .. N are given in this order", by the labelling rule: the label of each node, and all of them
abbrev pub labels_for : Cabling → List ℕ
labels_for c = labels_of c.nodes (links c) c.nodes

abbrev pub label_for : Cabling → ℕ → ℕ
label_for c = label_in (labels_for c)

-- the N × N entries of a class, free for `true`: byte v * N + t is the entry for node v, destination t
abbrev pub rows_for : Cabling → Bool → List ℕ
rows_for c class = rows_of c.nodes c.nodes (links c) (label_for c) class

-- RULES 5.4: "Its route follows these entries", and it starts free: the nodes after s on the way to t
abbrev pub route_for : Cabling → ℕ → ℕ → List ℕ
route_for c s t = route_of c.nodes (links c) (label_for c) s t

-- the same in arrays, with zeros behind
unfoldable pub fabric_of : Cabling → Fabric
fabric_of c = record {
  nodes = c.nodes;
  labels = padded max_nodes (labels_for c);
  free = padded table_size (rows_for c true);
  falling = padded table_size (rows_for c false);
}

-- the fabric of no nodes
unfoldable pub bare_fabric : Fabric
bare_fabric = record { nodes = 0; labels = replicate max_nodes 0; free = replicate table_size 0; falling = replicate table_size 0 }

-- what a verdict makes of a cabling: its fabric, or the fault
unfoldable pub made_by : Verdict → Cabling → Result Fabric Refusal
made_by (Ok _) c = Ok (fabric_of c)
made_by (Err r) c = Err r

-- a cabling's
abbrev pub made_of : Cabling → Result Fabric Refusal
made_of c = made_by (fault_of c) c
