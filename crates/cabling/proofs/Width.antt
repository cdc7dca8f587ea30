-- What is wrong at a node does not depend on the width at which links are counted and followed, if it has room for the nodes; so the table of 64 rows says it.
use Rattle.std.specs.Prelude.{Err, Ok}
use mathlib.Core.Path.{◌≡◌, ◌∙◌, ap, ap₂}
use mathlib.Core.Bool.{Bool, true, false}
use mathlib.Core.List.{List}
use Prim.Native.Nat.{ℕ, ◌/◌, ◌≤◌, ◌<◌}
use native.Mathlib.Omega.{arith}
use lib.ListN.{length}
use Rattle.finite.specs.Truth.{below}
use Rattle.finite.proofs.Sum.{count_cut}
use Rattle.finite.proofs.Search.{least_cong}
use Rattle.finite.proofs.Decide.{agree}
use Rattle.graph.specs.Network.{Network}
use Rattle.graph.proofs.Walk.{network-wider}
use Rattle.nodes.specs.Limits.{max_nodes, max_degree}
use Rattle.network.specs.Table.{edge_of, table_of}
use Rattle.refusal.specs.declared.Refusal.TheVariants.{Crowded, Apart}
use Rattle.cabling.specs.Cabling.{Cabling, links, EndsFine}
use Rattle.cabling.specs.Faults.{crowded, unreached, node_fault}
use Rattle.cabling.proofs.Tests.{decide_unreached}
use Rattle.cabling.proofs.Joined.{ends-network, ends-table}

module _ (w n : ℕ) (edge : ℕ → ℕ → Bool) (net : Network n edge) (room : n ≤ w) where
  crowded_width : (v : ℕ) → crowded w edge v ≡ crowded n edge v
  unfolding crowded
  crowded_width v = ap (below max_degree) (count_cut n w (edge v) room (net.inside v))

  unreached_width : (v : ℕ) → v < n → unreached w edge v ≡ unreached n edge v
  unreached_width v l = agree (decide_unreached w edge (network-wider n w room edge net) (omega arith) v) (decide_unreached n edge net (omega arith) v) (λ h. h) (λ h. h)

  pub node_width : node_fault w edge n ≡ node_fault n edge n
  unfolding node_fault
  node_width =
      ap₂ (λ (c u : ℕ). elim (below c n) [ true ↦ Err (Crowded c) | false ↦ elim (below u n) [ true ↦ Err (Apart u) | false ↦ Ok tt ] ])
      (least_cong n _ _ (λ v l. crowded_width v)) (least_cong n _ _ unreached_width)

pub node-table : (c : Cabling) → ((p : ℕ) → p < length c.pairs / 2 → EndsFine c p) → c.nodes ≤ max_nodes → {t : List ℕ} → t ≡ table_of c.pairs
    → node_fault max_nodes (edge_of t) c.nodes ≡ node_fault c.nodes (links c) c.nodes
node-table c ends few e =
    ap (λ (x : ℕ → ℕ → Bool). node_fault max_nodes x c.nodes) (ap edge_of e ∙ ends-table c ends few)
    ∙ node_width max_nodes c.nodes (links c) (ends-network c ends) few
