-- The arrays of a fabric: labels and rows are their fronts.
use mathlib.Core.Path.{◌≡◌, sym, ◌∙◌, ap, ap₂, subst}
use mathlib.Core.Bool.{Bool, true, false}
use mathlib.Core.List.{List}
use Prim.Native.Nat.{ℕ, ◌*◌}
use lib.ListN.{length, take}
use Rattle.finite.specs.Lists.{padded}
use Rattle.finite.proofs.Lists.{padded-front}
use Rattle.nodes.specs.Limits.{max_nodes}
use Rattle.rows.specs.Tables.{table_size}
use Rattle.rows.proofs.Meaning.{rows-length}
use Rattle.cabling.specs.Cabling.{Cabling, cabled, Good, links}
use Rattle.fabric.specs.declared.Fabric.{Fabric}
use Rattle.fabric.specs.Fabric.{labels_for, label_for, rows_for, fabric_of}
use Rattle.fabric.proofs.Labels.{labels_length}

module _ (c : Cabling) {f : Fabric} (e : f ≡ fabric_of c) where
  pub fabric-nodes : f.nodes ≡ c.nodes
  unfolding fabric_of
  fabric-nodes = ap (λ (x : Fabric). x.nodes) e

  pub labels-part : take f.nodes f.labels ≡ labels_for c
  unfolding fabric_of
  labels-part = ap (λ (x : Fabric). take x.nodes x.labels) e ∙ padded-front max_nodes (labels_for c) (labels_length c)

  rows-part : (class : Bool) → take (c.nodes * c.nodes) (padded table_size (rows_for c class)) ≡ rows_for c class
  rows-part class = padded-front table_size (rows_for c class) (rows-length c.nodes c.nodes (links c) (label_for c) class)

  pub free_part : take (f.nodes * f.nodes) f.free ≡ rows_for c true
  unfolding fabric_of
  free_part = ap (λ (x : Fabric). take (x.nodes * x.nodes) x.free) e ∙ rows-part true

  pub falling-part : take (f.nodes * f.nodes) f.falling ≡ rows_for c false
  unfolding fabric_of
  falling-part = ap (λ (x : Fabric). take (x.nodes * x.nodes) x.falling) e ∙ rows-part false

  pub rows-size : (class : Bool) → length (rows_for c class) ≡ f.nodes * f.nodes
  rows-size class = rows-length c.nodes c.nodes (links c) (label_for c) class ∙ ap (λ (n : ℕ). n * n) (sym fabric-nodes)

  -- the fabric's N and the pairs are the cabling
  pub cabling_of : {pairs : List ℕ} → pairs ≡ c.pairs → cabled f.nodes pairs ≡ c
  unfolding fabric_of
  cabling_of q = ap₂ (λ (x : Fabric) (y : List ℕ). cabled x.nodes y) e q

  pub full-asks : {pairs : List ℕ} → Good c → pairs ≡ c.pairs → Good (cabled f.nodes pairs) × (f ≡ fabric_of (cabled f.nodes pairs))
  full-asks g q = let k = sym (cabling_of q) in (subst Good k g, e ∙ ap fabric_of k)
