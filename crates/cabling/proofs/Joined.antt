-- Where the ends of every pair are fine, the links join nodes alone, the table holds them all, and the nodes are connected just where walks lead from
-- node 0 to each.
use mathlib.Core.Path.{◌≡◌, sym, ◌∙◌, subst, fun_ext}
use mathlib.Core.Bool.{true}
use Prim.Native.Nat.{ℕ, ◌+◌, ◌*◌, ◌/◌, ◌%◌, ◌≤◌, ◌<◌}
use native.Mathlib.Omega.{arith}
use lib.ListN.{length, get_or, get_or-eq_default}
use Rattle.finite.specs.Truth.{below}
use Rattle.finite.proofs.Truth.{bcase, iff, below-lt, below-le, lt-below}
use Rattle.finite.proofs.Search.{any_some}
use Rattle.graph.specs.Network.{Network, Walk, Connected, among}
use Rattle.graph.proofs.Walk.{walk-map, walk-append, walk_reverse, among-edge, edge-among}
use Rattle.nodes.specs.Limits.{max_nodes}
use Rattle.network.specs.Table.{linked_by, linked, edge_of, table_of}
use Rattle.network.proofs.Table.{edge-table_from}
use Rattle.network.proofs.Links.{joins-ends}
use Rattle.network.proofs.Meaning.{linked_swap, linked-ne, pairs-network}
use Rattle.cabling.specs.Cabling.{Cabling, links, EndsFine, Good}

module _ (c : Cabling) (ends : (p : ℕ) → p < length c.pairs / 2 → EndsFine c p) where
  link-low : (a b : ℕ) → links c a b ≡ true → b < c.nodes
  unfolding linked linked_by
  link-low a b h =
      let s = any_some _ _ h in
      let e = ends s.at s.low in
      joins-ends _ _ a b s.fact (λ x y. omega arith) (λ x y. omega arith)

  pub ends-network : Network c.nodes (links c)
  ends-network = record { undirected = linked_swap c.pairs; no_loop = linked-ne c.pairs; inside = link-low }

  -- the table of the pairs holds the links
  pub ends-table : c.nodes ≤ max_nodes → edge_of (table_of c.pairs) ≡ links c
  ends-table few =
      let net = pairs-network c.pairs in
      fun_ext (λ a. fun_ext (λ b.
      iff _ _ (λ h. sym (edge-table_from (links c) a b (net.inside b a (net.undirected a b h)) (net.inside a b h)) ∙ h)
      (λ h.
      let k = link-low b a (linked_swap c.pairs a b h) in
      let l = link-low a b h in
      edge-table_from (links c) a b (omega arith) (omega arith) ∙ h)))

  -- each link stands between two of the nodes
  inner : (a b : ℕ) → links c a b ≡ true → among (λ v. below v c.nodes) (links c) a b ≡ true
  inner a b h = edge-among _ (links c) (lt-below (link-low b a (linked_swap c.pairs a b h))) (lt-below (link-low a b h)) h

  pub walks_connected : ((v : ℕ) → v < c.nodes → Walk (links c) 0 v) → Connected (links c) (λ v. below v c.nodes)
  walks_connected to a b x y =
      walk-map inner (walk-append (walk_reverse (linked_swap c.pairs) (to a (below-lt _ _ x))) (to b (below-lt _ _ y)))

  pub connected_walks : 0 < c.nodes → Connected (links c) (λ v. below v c.nodes) → (v : ℕ) → v < c.nodes → Walk (links c) 0 v
  connected_walks z w v l = walk-map (among-edge (λ u. below u c.nodes) (links c)) (w 0 v (lt-below z) (lt-below l))

-- a good cabling is a network, and the table of its pairs holds its links
pub good-network : {c : Cabling} → Good c → Network c.nodes (links c)
good-network {c} g = ends-network c g.ends

pub table-links : {c : Cabling} → Good c → edge_of (table_of c.pairs) ≡ links c
table-links {c} g = ends-table c g.ends g.few

-- each byte of its pairs is a node
pub good-low : {c : Cabling} → Good c → (i : ℕ) → get_or c.pairs i 0 < c.nodes
good-low {c} g i =
    let many = g.many in
    bcase (below i (length c.pairs))
    (λ t.
    let l = below-lt _ _ t in
    let even = g.even in
    let (low, high) = g.ends (i / 2) (omega arith) in
    bcase (below (i % 2) 1)
    (λ u. let r = below-lt _ _ u in let e : 2 * (i / 2) ≡ i = omega arith in subst (λ (j : ℕ). get_or c.pairs j 0 < c.nodes) e (omega arith))
    (λ u. let r = below-le _ _ u in let e : 2 * (i / 2) + 1 ≡ i = omega arith in subst (λ (j : ℕ). get_or c.pairs j 0 < c.nodes) e high))
    (λ t. rw (get_or-eq_default c.pairs 0 (below-le _ _ t)) (omega arith))
