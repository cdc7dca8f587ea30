-- The arrays of a good cabling's fabric hold its labels and its tables at their front: all that hop, and so route and the drain machine, need of them.
use mathlib.Core.Path.{◌≡◌, sym, ◌∙◌, ap, subst, fun_ext}
use mathlib.Core.Bool.{Bool, true, false}
use Prim.Native.Nat.{ℕ, ◌+◌, ◌*◌, ◌≤◌, ◌<◌}
use native.Mathlib.Nat.{mul-le-mul}
use native.Mathlib.Omega.{arith}
use lib.ListN.{length, get_or}
use Rattle.finite.specs.Lists.{padded}
use Rattle.finite.proofs.Lists.{padded-at, padded-length}
use Rattle.lawful.specs.Turn.{Climbing, label_in}
use Rattle.lawful.specs.Entry.{entry}
use Rattle.nodes.specs.Limits.{max_nodes}
use Rattle.cabling.specs.Cabling.{Cabling, Good, links}
use Rattle.cabling.proofs.Joined.{good-network}
use Rattle.hops.specs.Tabled.{Tabled}
use Rattle.rows.specs.Tables.{table_size}
use Rattle.rows.proofs.Meaning.{rows-length}
use Rattle.fabric.specs.Fabric.{labels_for, label_for, rows_for, fabric_of}
use Rattle.fabric.proofs.Labels.{labels_length, good-climbing, good-label-le}
use Rattle.fabric.proofs.Rows.{good-row-at}

-- the fabric of a cabling has the tables of its network
abbrev pub TabledFor : Cabling → Type 0
TabledFor c = Tabled c.nodes (links c) (fabric_of c).labels (fabric_of c).free (fabric_of c).falling

-- labels are read the same from the list and from the fabric's array
pub label_read : (c : Cabling) → label_in (fabric_of c).labels ≡ label_for c
unfolding fabric_of
label_read c = fun_ext (padded-at max_nodes (labels_for c))

module _ {c : Cabling} (g : Good c) where
  -- a table fits its array
  table-long : (class : Bool) → c.nodes * c.nodes ≤ length (padded table_size (rows_for c class))
  table-long class =
      let size = mul-le-mul g.few g.few in
      let long = rows-length c.nodes c.nodes (links c) (label_for c) class in
      let whole = padded-length table_size (rows_for c class) (omega arith) in
      omega arith

  table_at : (class : Bool) (v t : ℕ) → v < c.nodes → t < c.nodes
      → get_or (padded table_size (rows_for c class)) (v * c.nodes + t) 0 ≡ entry c.nodes (links c) (label_in (fabric_of c).labels) t class v
  table_at class v t k l =
      padded-at _ _ _ ∙ good-row-at g class v t k l ∙ ap (λ (f : ℕ → ℕ). entry c.nodes (links c) f t class v) (sym (label_read c))

  pub good-tabled : TabledFor c
  unfolding fabric_of
  good-tabled =
      let few = g.few in
      let long = labels_length c in
      let whole = padded-length max_nodes (labels_for c) (omega arith) in
      record {
        least = g.many;
        most = g.few;
        network = good-network g;
        climbing = subst (Climbing c.nodes (links c)) (sym (label_read c)) (good-climbing g);
        highest = λ v l. rw padded-at (good-label-le g v);
        labels-long = omega arith;
        free-long = table-long true;
        falling-long = table-long false;
        free-rows = table_at true;
        falling-rows = table_at false;
      }
