-- What a fabric tells of its cabling: the fields of its first line, the label and the free row of a node.
use mathlib.Core.Path.{◌≡◌, ◌∙◌, ap, ap₂, fun_ext}
use mathlib.Core.Bool.{true, false}
use mathlib.Core.List.{List, [], ◌∷◌}
use Prim.Native.Nat.{ℕ, ◌/◌, ◌<◌}
use lib.ListN.{length, get_or}
use Rattle.finite.specs.Truth.{same}
use Rattle.finite.proofs.Lists.{tabulate_ext, padded-at}
use Rattle.nodes.specs.Limits.{max_nodes}
use Rattle.network.specs.Table.{edge_of, table_of}
use Rattle.cabling.specs.Cabling.{Cabling, Good, links}
use Rattle.cabling.proofs.Joined.{good-network, table-links}
use Rattle.lawful.specs.Turn.{prohibited}
use Rattle.turns.specs.Turns.{all_turns, prohibited_turns}
use Rattle.turns.proofs.Width.{turns_width}
use Rattle.hops.specs.Row.{row_in}
use Rattle.fabric.specs.Fabric.{labels_for, label_for, rows_for, fabric_of}
use Rattle.fabric.proofs.Hops.{good-row-size, good-row-entry}
use Rattle.shown.specs.Shows.{fabric_fields, free_row}

module _ {c : Cabling} (g : Good c) where
  abbrev n : ℕ
  n = c.nodes

  -- the label of a node
  pub label-made : {labels : List ℕ} → labels ≡ (fabric_of c).labels → (v : ℕ) → get_or labels v 0 ≡ label_for c v
  unfolding fabric_of
  label-made e v = ap (λ (l : List ℕ). get_or l v 0) e ∙ padded-at max_nodes (labels_for c) v

  -- the fabric's line: turns counted at 64 nodes are those of N
  pub fields_made : {labels t : List ℕ} {total barred : ℕ} → labels ≡ (fabric_of c).labels → t ≡ table_of c.pairs → total ≡ all_turns max_nodes (edge_of t)
      → barred ≡ prohibited_turns max_nodes (edge_of t) (λ u. get_or labels u 0)
      → n ∷ length c.pairs / 2 ∷ total ∷ barred ∷ [] ≡ fabric_fields c
  fields_made {t = t} el et a b =
      let e : edge_of t ≡ links c = ap edge_of et ∙ table-links g in
      let width = turns_width n max_nodes g.few (links c) (good-network g) in
      ap₂ (λ (x y : ℕ). n ∷ length c.pairs / 2 ∷ x ∷ y ∷ []) (a ∙ ap (all_turns max_nodes) e ∙ width (λ x y z. true))
      (b ∙ ap₂ (prohibited_turns max_nodes) e (fun_ext (label-made el)) ∙ width (prohibited (label_for c)))

  -- the row call answers the free row
  pub row_made : {free falling row : List ℕ} {v : ℕ} → free ≡ rows_for c true → falling ≡ rows_for c false → v < n → row ≡ row_in free falling n v 0 → row ≡ free_row c v
  unfolding same
  row_made {v = v} x y l e =
      e ∙ ap₂ (λ (x y : List ℕ). row_in x y n v 0) x y
      ∙ tabulate_ext n _ 0 _ (good-row-size g true v l) (good-row-entry g true v l)
