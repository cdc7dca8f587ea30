-- The labels of every good cabling, by RULES 4: by the rule, each of 1 to N once, and each node but the top one has a neighbour with a higher label.
use mathlib.Core.Path.{◌≡◌}
use Prim.Native.Nat.{ℕ, ◌≤◌, ◌<◌}
use native.Mathlib.Nat.{le_refl}
use native.Mathlib.Omega.{arith}
use lib.ListN.{length}
use Rattle.lawful.specs.Turn.{Climbing}
use Rattle.rule.specs.Labels.{labels_of, ByRule}
use Rattle.rule.proofs.Stages.{labelled-length}
use Rattle.rule.proofs.Labels.{label_pos, label-le, label_once, labels-by_rule, labels_unique}
use Rattle.rule.proofs.Climb.{labels-climbing}
use Rattle.cabling.specs.Cabling.{Cabling, Good, links}
use Rattle.cabling.proofs.Joined.{good-network}
use Rattle.fabric.specs.Fabric.{labels_for, label_for}

pub labels_length : (c : Cabling) → length (labels_for c) ≡ c.nodes
unfolding labels_of
labels_length c = labelled-length c.nodes (links c) c.nodes c.nodes

module _ {c : Cabling} (g : Good c) where
  -- RULES 4.1: "Labels 1, 2, .. N are given in this order", each to the node to choose of those that remain
  pub good-by_rule : ByRule c.nodes (links c) c.nodes (label_for c)
  good-by_rule = labels-by_rule c.nodes (links c) (good-network g) c.nodes (le_refl _) g.connected

  -- and no other labelling is by the rule
  pub good-labels_unique : (label : ℕ → ℕ) → ByRule c.nodes (links c) c.nodes label → (v : ℕ) → v < c.nodes → label v ≡ label_for c v
  good-labels_unique = labels_unique c.nodes (links c) (good-network g) c.nodes (le_refl _) g.connected

  pub good-label_once : (u v : ℕ) → u < c.nodes → v < c.nodes → label_for c u ≡ label_for c v → u ≡ v
  good-label_once = label_once c.nodes (links c) (good-network g) c.nodes (le_refl _) g.connected

  pub good-label_pos : (v : ℕ) → v < c.nodes → 0 < label_for c v
  good-label_pos = label_pos c.nodes (links c) (good-network g) c.nodes (le_refl _) g.connected

  pub good-label-le : (v : ℕ) → label_for c v ≤ c.nodes
  good-label-le = label-le c.nodes (links c) (good-network g) c.nodes (le_refl _) g.connected

  -- each node but the top one has a neighbour with a higher label
  pub good-climbing : Climbing c.nodes (links c) (label_for c)
  good-climbing = let two = g.many in labels-climbing c.nodes c.nodes (links c) (good-network g) (le_refl _) g.connected (omega arith)
