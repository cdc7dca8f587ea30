-- Laws of neighbour tables: the links that a table holds, a table given by its links, and a node struck out.
use mathlib.Core.Path.{◌≡◌, sym, ◌∙◌, ap}
use mathlib.Core.Bool.{Bool, true, false}
use mathlib.Core.List.{List}
use Prim.Native.Nat.{ℕ, ◌^◌, ◌≤◌, ◌<◌}
use native.Mathlib.Omega.{arith}
use lib.Dec.{lit<}
use lib.ListN.{length, get_or, set, length-set}
use lib.Seq.{get_or-set_same, get_or-set_other, set_out}
use Rattle.finite.specs.Truth.{◌&◌, non, same, below}
use Rattle.finite.specs.Sets.{has, set_of, without}
use Rattle.finite.specs.Lists.{tabulate}
use Rattle.finite.proofs.Truth.{no_tf, bcase, iff, refute, both, and_l, and_r, and_true, non-true, true-non, same_refl, same-eq, same-ne, ne_same, lt-below, below-lt, below-le}
use Rattle.finite.proofs.Sets.{has-lt, has_0, has-set_of, set_of_cong, set_ext}
use Rattle.finite.proofs.Lists.{tabulate-length, tabulate-at, tabulate_cong, tabulate_ext}
use Rattle.finite.proofs.Filling.{Filling}
use Rattle.graph.specs.Network.{among, avoid}
use Rattle.nodes.specs.Limits.{max_nodes}
use Rattle.network.specs.Table.{neighbours_of, edge_of, table_from, struck_out}

-- each row of the table is a word
abbrev pub Words : List ℕ → Type 0
Words t = (a : ℕ) → get_or t a 0 < 2 ^ max_nodes

-- the links of a table of words lead to the first 64 numbers
pub edge-inside : (t : List ℕ) → Words t → (a b : ℕ) → edge_of t a b ≡ true → b < max_nodes
unfolding edge_of
edge-inside t w a b h = has-lt max_nodes (get_or t a 0) b (w a) h

-- a table given by its links has 64 rows, and just these links between the first 64 numbers
pub table_from-length : (edge : ℕ → ℕ → Bool) → length (table_from edge) ≡ max_nodes
unfolding table_from
table_from-length edge = tabulate-length max_nodes _

pub edge-table_from : (edge : ℕ → ℕ → Bool) (a b : ℕ) → a < max_nodes → b < max_nodes → edge_of (table_from edge) a b ≡ edge a b
unfolding edge_of table_from
edge-table_from edge a b k l =
    ap (λ (w : ℕ). has w b) (tabulate-at max_nodes (λ x. set_of max_nodes (edge x)) a 0 k) ∙ has-set_of max_nodes (edge a) b l

-- tables of links that agree between the first 64 numbers are equal
pub table_from_cong : (edge link : ℕ → ℕ → Bool) → ((a b : ℕ) → a < max_nodes → b < max_nodes → edge a b ≡ link a b) → table_from edge ≡ table_from link
unfolding table_from
table_from_cong edge link h = tabulate_cong max_nodes _ _ (λ a k. set_of_cong max_nodes _ _ (λ b l. h a b k l))

-- a table is known by its length and its links
pub table_ext : (t : List ℕ) (edge : ℕ → ℕ → Bool) → length t ≡ max_nodes → Words t
    → ((a b : ℕ) → a < max_nodes → b < max_nodes → edge_of t a b ≡ edge a b) → t ≡ table_from edge
unfolding edge_of table_from
table_ext t edge e w h =
    tabulate_ext max_nodes (λ a. set_of max_nodes (edge a)) 0 t e (λ a k. set_ext max_nodes (get_or t a 0) (edge a) (w a) (λ b l. h a b k l))

-- ---- only some nodes kept

-- the row of a node that is not kept is empty, and every other row keeps the nodes that are
pub kept-none : (row w u : ℕ) → has w u ≡ false → 0 ≡ set_of max_nodes (among (has w) (λ a b. has row b) u)
unfolding among
kept-none row w u f =
    set_ext max_nodes 0 (among (has w) (λ a b. has row b) u) (lit< tt) (λ b l. has_0 b ∙ sym (refute _ (λ t. no_tf (and_l _ _ t) f)))

pub kept-some : (row w u : ℕ) → has w u ≡ true
    → set_of max_nodes (λ b. has row b & has w b) ≡ set_of max_nodes (among (has w) (λ a b. has row b) u)
unfolding among
kept-some row w u h =
    set_of_cong max_nodes _ _ (λ b l. iff _ _ (λ t. both h (both (and_r _ _ t) (and_l _ _ t))) (λ t. both (and_r _ _ (and_r _ _ t)) (and_l _ _ (and_r _ _ t))))

-- ---- one node struck out

-- of a table with 64 rows it leaves the table of the links that do not touch v
pub struck-table : (v : ℕ) (t : List ℕ) → length t ≡ max_nodes → struck_out v t ≡ table_from (avoid v (edge_of t))
unfolding struck_out table_from
struck-table v t e = ap (λ (n : ℕ). tabulate n (λ a. set_of max_nodes (avoid v (edge_of t) a))) e

-- the word of all nodes but v
others : (v : ℕ) {all w : ℕ} → all ≡ set_of max_nodes (λ u. below u max_nodes) → w ≡ set_of max_nodes (without (has all) v)
    → (u : ℕ) → u < max_nodes → has w u ≡ non (same v u)
unfolding without
others v a e u l =
    ap (λ (x : ℕ). has x u) e ∙ has-set_of max_nodes _ u l
    ∙ ap (λ (b : Bool). b & non (same v u)) (ap (λ (x : ℕ). has x u) a ∙ has-set_of max_nodes _ u l ∙ lt-below l) ∙ and_true (non (same v u))

-- the row of a, where only the nodes of w are kept
abbrev pub masked : List ℕ → ℕ → ℕ → ℕ
masked t w a = set_of max_nodes (λ b. has (neighbours_of t a) b & has w b)

-- the struck node's own row is empty
own_row : (t : List ℕ) (v : ℕ) → 0 ≡ set_of max_nodes (avoid v (edge_of t) v)
unfolding avoid among
own_row t v = set_ext max_nodes 0 _ (lit< tt) (λ b k. has_0 b ∙ sym (refute _ (λ h. no_tf (same_refl v) (non-true _ (and_l _ _ h)))))

-- every row has lost v; then its own is emptied, where there is one
module _ (v : ℕ) {t new : List ℕ} {all w u : ℕ} (a : all ≡ set_of max_nodes (λ x. below x max_nodes)) (e : w ≡ set_of max_nodes (without (has all) v))
    (s : Filling (masked t w) t new u) (l : length t ≤ u) where
  other_row : (x : ℕ) → (v ≡ x → ⊥) → masked t w x ≡ set_of max_nodes (avoid v (edge_of t) x)
  unfolding avoid among edge_of
  other_row x d =
      set_of_cong max_nodes _ _ (λ b k.
      iff _ _ (λ h. both (true-non (ne_same d)) (both (sym (others v a e b k) ∙ and_r _ _ h) (and_l _ _ h)))
      (λ h. both (and_r _ _ (and_r _ _ h)) (others v a e b k ∙ and_l _ _ (and_r _ _ h))))

  struck : v < length t → set new v 0 ≡ struck_out v t
  unfolding struck_out
  struck k =
      tabulate_ext (length t) _ 0 (set new v 0) (length-set new v 0 ∙ s.size) (λ x h.
      bcase (same v x) (λ q. rw (← same-eq v x q) (get_or-set_same new v 0 0 (rw s.size k) ∙ own_row t v))
      (λ q. let d = same-ne v x q in get_or-set_other new v x 0 0 (λ p. d (sym p)) ∙ s.passed x (omega arith) ∙ other_row x d))

  struck-none : length t ≤ v → new ≡ struck_out v t
  unfolding struck_out
  struck-none k = tabulate_ext (length t) _ 0 new s.size (λ x h. s.passed x (omega arith) ∙ other_row x (λ p. omega arith))

  pub struck-all : (none : ℕ) {last : List ℕ} → none ≡ 0 → last ≡ set new v none → last ≡ struck_out v t
  struck-all none z e =
      e ∙ ap (set new v) z
      ∙ bcase (below v (length t)) (λ h. struck (below-lt _ _ h)) (λ h. let k = below-le _ _ h in set_out new v 0 (rw s.size k) ∙ struck-none k)
