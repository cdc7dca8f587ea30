-- What the functions' answers mean, by RULES 3: the links of a list of pairs make a network, a table of what remains holds the remaining graph, and
-- on it `strike`, `degree`, `joined` and `splits` speak of that graph; for a table made from pairs they say what walks say.
use mathlib.Core.Path.{◌≡◌, sym, ◌∙◌, ap, fun_ext}
use mathlib.Core.Bool.{Bool, true}
use mathlib.Core.List.{List}
use mathlib.Core.Logic.{◌↔◌}
use Prim.Native.Nat.{ℕ, ◌<◌}
use Rattle.finite.specs.Truth.{below}
use Rattle.finite.specs.Sum.{count}
use Rattle.finite.specs.Sets.{has, set_of, without}
use Rattle.finite.proofs.Truth.{no_tf, bcase, refute, below-lt, below-le}
use Rattle.finite.proofs.Search.{any_some, some-any}
use Rattle.finite.proofs.Sets.{has-lt, has_0, set_of-lt}
use Rattle.finite.proofs.Lists.{tabulate-at, tabulate_out}
use Rattle.graph.specs.Network.{Network, Members, From, Connected, CutNode, among, avoid, degree}
use Rattle.graph.specs.Reach.{reach, joined, connected, cut, splits}
use Rattle.graph.proofs.Walk.{among-from, among-to}
use Rattle.graph.proofs.Reach.{reach-from, reach-walk}
use Rattle.graph.proofs.Connected.{connected-iff, cut-iff}
use Rattle.graph.proofs.Remaining.{avoid-among, joined-connected, splits-cut, links-degree}
use Rattle.nodes.specs.Limits.{max_nodes}
use Rattle.network.specs.Table.{linked_by, linked, edge_of, table_from, table_of, remaining, struck_out}
use Rattle.network.proofs.Table.{table_from-length, edge-table_from, struck-table}
use Rattle.network.proofs.Links.{joins-ne, joins-ends, joins_swap}

-- ---- a list of pairs makes a network

pub linked_swap : (pairs : List ℕ) (a b : ℕ) → linked pairs a b ≡ true → linked pairs b a ≡ true
unfolding linked linked_by
linked_swap pairs a b h = let s = any_some _ _ h in some-any _ _ s.at s.low (joins_swap _ _ a b s.fact)

pub linked-ne : (pairs : List ℕ) (a : ℕ) → linked pairs a a ≡ true → ⊥
unfolding linked linked_by
linked-ne pairs a h =
    let s = any_some _ _ h in
    joins-ne _ _ a a s.fact (joins-ends _ _ a a s.fact (λ p q. p ∙ sym q) (λ p q. p ∙ sym q))

-- the links of a table made by a test stand between the first 64 numbers
table_from-low : (edge : ℕ → ℕ → Bool) (a b : ℕ) → edge_of (table_from edge) a b ≡ true → (a < max_nodes) × (b < max_nodes)
unfolding edge_of table_from
table_from-low edge a b h =
    bcase (below a max_nodes)
    (λ t.
    let l = below-lt _ _ t in (
      l,
      has-lt max_nodes _ b (set_of-lt max_nodes (edge a)) (sym (ap (λ (w : ℕ). has w b) (tabulate-at max_nodes (λ x. set_of max_nodes (edge x)) a 0 l)) ∙ h),
    ))
    (λ t. no_tf h (ap (λ (w : ℕ). has w b) (tabulate_out max_nodes (λ x. set_of max_nodes (edge x)) a 0 (below-le _ _ t)) ∙ has_0 b))

table_from-edge : (edge : ℕ → ℕ → Bool) (a b : ℕ) → edge_of (table_from edge) a b ≡ true → edge a b ≡ true
table_from-edge edge a b h = let l = table_from-low edge a b h in sym (edge-table_from edge a b l.0 l.1) ∙ h

pub pairs-network : (pairs : List ℕ) → Network max_nodes (edge_of (table_of pairs))
pairs-network pairs = record {
  undirected = λ a b h.
      let l = table_from-low (linked pairs) a b h in
      edge-table_from (linked pairs) b a l.1 l.0 ∙ linked_swap pairs a b (table_from-edge (linked pairs) a b h);
  no_loop = λ a h. linked-ne pairs a (table_from-edge (linked pairs) a a h);
  inside = λ a b h. (table_from-low (linked pairs) a b h).1;
}

-- ---- a table of what remains

-- its links are those of the remaining graph
pub edge-remaining : (R : ℕ → Bool) (edge : ℕ → ℕ → Bool) → Members max_nodes R → edge_of (remaining R edge) ≡ among R edge
edge-remaining R edge m =
    fun_ext (λ a. fun_ext (λ b.
    bcase (among R edge a b)
    (λ t. edge-table_from (among R edge) a b (m a (among-from R edge a b t)) (m b (among-to R edge a b t)))
    (λ t. refute _ (λ h. no_tf (table_from-edge (among R edge) a b h) t) ∙ sym t)))

module _ (R : ℕ → Bool) (edge : ℕ → ℕ → Bool) (m : Members max_nodes R) where
  -- striking out v leaves the table of what remains without v
  pub strike_remaining : (v : ℕ) → struck_out v (remaining R edge) ≡ remaining (without R v) edge
  strike_remaining v =
      struck-table v (remaining R edge) (table_from-length (among R edge))
      ∙ ap (λ (e : ℕ → ℕ → Bool). table_from (avoid v e)) (edge-remaining R edge m) ∙ ap table_from (avoid-among R edge v)

  -- the count of ones is the remaining degree
  pub degree-remaining : (v : ℕ) → R v ≡ true → count max_nodes (edge_of (remaining R edge) v) ≡ degree max_nodes edge R v
  degree-remaining v h =
      ap (λ (e : ℕ → ℕ → Bool). count max_nodes (e v)) (edge-remaining R edge m) ∙ links-degree max_nodes edge R v h

  pub joined-remaining : joined max_nodes (edge_of (remaining R edge)) R ≡ connected max_nodes edge R
  joined-remaining =
      ap (λ (e : ℕ → ℕ → Bool). joined max_nodes e R) (edge-remaining R edge m) ∙ joined-connected max_nodes edge R

  pub splits-remaining : (v : ℕ) → splits max_nodes (edge_of (remaining R edge)) R v ≡ cut max_nodes edge R v
  splits-remaining v =
      ap (λ (e : ℕ → ℕ → Bool). splits max_nodes e R v) (edge-remaining R edge m) ∙ splits-cut max_nodes edge R v

-- ---- for every table made from pairs

module _ (pairs : List ℕ) where
  -- the flood answers exactly the nodes that walks lead to
  pub flood_means : (start v : ℕ)
      → (has (reach max_nodes (edge_of (table_of pairs)) (has start)) v ≡ true) ↔ From max_nodes (edge_of (table_of pairs)) (has start) v
  flood_means start v = (
    reach-from max_nodes _ (has start) v,
    λ f. reach-walk max_nodes _ (pairs-network pairs).inside (has start) f.low f.fact f.walk,
  )

  -- the test of connectedness says that any two remaining nodes are joined by a walk among the remaining ones
  pub joined_means : (R : ℕ → Bool) → Members max_nodes R
      → (joined max_nodes (edge_of (remaining R (edge_of (table_of pairs)))) R ≡ true) ↔ Connected (edge_of (table_of pairs)) R
  joined_means R m = rw (joined-remaining R (edge_of (table_of pairs)) m) (connected-iff max_nodes _ (pairs-network pairs) R m)

  -- the cut test says that the other remaining nodes are not all joined so
  pub splits_means : (R : ℕ → Bool) → Members max_nodes R → (v : ℕ)
      → (splits max_nodes (edge_of (remaining R (edge_of (table_of pairs)))) R v ≡ true) ↔ CutNode (edge_of (table_of pairs)) R v
  splits_means R m v = rw (splits-remaining R (edge_of (table_of pairs)) m v) (cut-iff max_nodes _ (pairs-network pairs) R m v)
