-- A round takes the search from layer k to layer k + 1; when no node joins it has come to the last layer, where every node has its entry.
use mathlib.Core.Path.{◌≡◌, refl, sym, ◌∙◌, ap, ap₂}
use mathlib.Core.Bool.{Bool, true, false}
use mathlib.Core.List.{List}
use Prim.Native.Nat.{ℕ, suc, ◌+◌, ◌≤◌, ◌<◌}
use native.Mathlib.Numerals.{add-one}
use native.Mathlib.Omega.{arith}
use lib.ListN.{get_or, set, replicate, length-set, get_or-replicate}
use lib.Seq.{get_or-set_same, get_or-set_other}
use Rattle.finite.specs.Truth.{◌&◌, ◌or◌, non, same, below}
use Rattle.finite.specs.Search.{any}
use Rattle.finite.specs.Sets.{has, set_of}
use Rattle.finite.specs.Lists.{tabulate}
use Rattle.finite.proofs.Truth.{no_tf, bcase, iff, and_true, and_false, false_and, or_l, or_r, or_case, same-eq, same-ne}
use Rattle.finite.proofs.Search.{least_cong, below-least}
use Rattle.finite.proofs.Sets.{has_0, has-set_of, set_of_cong, set_of-has, set_ext}
use Rattle.finite.proofs.Lists.{tabulate-at, tabulate_ext, tabulate_cong}
use Rattle.nodes.specs.Limits.{max_nodes}
use Rattle.network.specs.Table.{edge_of}
use Rattle.network.proofs.Table.{edge-table_from}
use Rattle.lawful.specs.Turn.{rises, falls}
use Rattle.lawful.specs.Entry.{Layer, leads, joining, layer, lowest_lead, none, entry}
use Rattle.lawful.proofs.Layers.{side, layer_ext, layer-lt, layer-none, layer-more, layer-grow, layer-still, layer-rest}
use Rattle.lawful.proofs.Entries.{entry-self, entry-joins, entry-never}
use Rattle.rows.specs.Steps.{pick, rounds, ways_of, search_from, lead_of, half_of, round_of, side_at, search_at, OfWays}
use Rattle.rows.specs.declared.Ways.{Ways}
use Rattle.rows.specs.declared.Side.{Side}
use Rattle.rows.specs.declared.Search.{Search}
use Rattle.rows.proofs.Joining.{side_ext}
use Rattle.rows.proofs.Frontier.{gained}

pub search_ext : {a b : Search} → a.free ≡ b.free → a.falling ≡ b.falling → a ≡ b
search_ext p q = λ i. record { free = p i; falling = q i }

-- the set that a rise may lead into: a falling message may not rise
abbrev rise_into : Bool → Layer → ℕ
rise_into true s = s.free
rise_into false s = 0

-- no node is in the second set that is not in the first
abbrev Gainless : ℕ → ℕ → Type 0
Gainless old next = (v : ℕ) → v < max_nodes → has next v ≡ true → has old v ≡ true

module _ (edge : ℕ → ℕ → Bool) (label : ℕ → ℕ) where
  abbrev ups : List ℕ
  ups = (ways_of edge label).up

  abbrev downs : List ℕ
  downs = (ways_of edge label).down

  -- ---- what the words say of a hop

  words-lead : (s : Layer) (c : Bool) (v u : ℕ) → v < max_nodes → u < max_nodes
      → edge_of ups v u & has (rise_into c s) u or edge_of downs v u & has s.fall u ≡ leads edge label s c v u
  unfolding leads ways_of
  words-lead s c v u k l =
      ap₂ (λ (x y : Bool). x or y & has s.fall u)
      (ap (λ (x : Bool). x & has (rise_into c s) u) (edge-table_from (rises edge label) v u k l) ∙ rising c) (edge-table_from (falls edge label) v u k l)
    where
      rising : (d : Bool) → rises edge label v u & has (rise_into d s) u ≡ d & rises edge label v u & has s.free u
      rising true = sym (and_true _)
      rising false = ap (λ (x : Bool). rises edge label v u & x) (has_0 u) ∙ false_and _ ∙ sym (and_false _)

  lead-lowest : (s : Layer) (c : Bool) (v : ℕ) → v < max_nodes → lead_of ups downs (rise_into c s) s.fall v ≡ lowest_lead max_nodes edge label s c v
  unfolding lead_of lowest_lead
  lead-lowest s c v l = least_cong max_nodes _ _ (λ u k. words-lead s c v u l k)

  lead-some : (s : Layer) (c : Bool) (v : ℕ) → v < max_nodes
      → below (lead_of ups downs (rise_into c s) s.fall v) max_nodes ≡ any max_nodes (leads edge label s c v)
  unfolding lowest_lead
  lead-some s c v l = ap (λ (u : ℕ). below u max_nodes) (lead-lowest s c v l) ∙ below-least max_nodes (leads edge label s c v)

  module _ (t : ℕ) (low : t < max_nodes) where
    abbrev at : ℕ → Layer
    at k = layer max_nodes edge label t k

    abbrev side_of : Bool → ℕ → Side
    side_of c k = side_at edge label t c (side c (at k))

    -- ---- before the first round

    first-members : (c : Bool) → set_of max_nodes (same t) ≡ side c (at 0)
    unfolding layer
    first-members true = refl
    first-members false = refl

    first-entries : (w v : ℕ) → v < max_nodes → has w v ≡ same t v → (c : Bool) → get_or (set (replicate max_nodes none) t t) v 0 ≡ pick (has w v) (entry max_nodes edge label t c v) none
    first-entries w v l e c =
        bcase (same t v)
        (λ q. rw (e, q, ← same-eq t v q, entry-self max_nodes edge label t c) (get_or-set_same (replicate max_nodes none) t t 0 low))
        (λ q. rw (e, q) (get_or-set_other (replicate max_nodes none) t v t 0 (λ p. same-ne t v q (sym p)) ∙ get_or-replicate max_nodes v none 0 l))

    first-side : (c : Bool) → record { members = set_of max_nodes (same t); entries = set (replicate max_nodes none) t t } ≡ side_of c 0
    unfolding side_at
    first-side c =
        side_ext (first-members c)
        (tabulate_ext max_nodes _ 0 (set (replicate max_nodes none) t t) (length-set (replicate max_nodes none) t t)
        (λ v l. first-entries (side c (at 0)) v l (layer-none max_nodes edge label t c v l) c))

    pub start-at : search_from t ≡ search_at edge label t 0
    unfolding search_from search_at
    start-at = search_ext (first-side true) (first-side false)

    -- ---- one round

    next-members : (c : Bool) (k : ℕ) → side c (at (suc k)) ≡ set_of max_nodes (λ v. has (side c (at k)) v or any max_nodes (leads edge label (at k) c v))
    unfolding layer joining
    next-members true k = refl
    next-members false k = refl

    -- a node that joins has the lowest lead for its entry, one that joined before keeps its entry
    chosen : (a b : Bool) (x y : ℕ) → (a ≡ false → b ≡ true → x ≡ y) → pick (b & non a) x (pick a y none) ≡ pick (a or b) y none
    unfolding ◌&◌ ◌or◌ non
    chosen true true x y h = refl
    chosen true false x y h = refl
    chosen false true x y h = h refl refl
    chosen false false x y h = refl

    next-entries : (c : Bool) (k v : ℕ) → v < max_nodes
        → pick (below (lead_of ups downs (rise_into c (at k)) (at k).fall v) max_nodes & non (has (side c (at k)) v)) (lead_of ups downs (rise_into c (at k)) (at k).fall v)
        (get_or (side_of c k).entries v 0)
        ≡ pick (has (side c (at (suc k))) v) (entry max_nodes edge label t c v) none
    unfolding side_at
    next-entries c k v l =
        rw (lead-some (at k) c v l, lead-lowest (at k) c v l, tabulate-at max_nodes _ v 0 l, layer-more max_nodes edge label t k c v l)
        (chosen _ _ _ _ (λ f h. sym (entry-joins max_nodes edge label t low k c v l f h)))

    half-next : (c : Bool) (k : ℕ) → half_of ups downs (rise_into c (at k)) (at k).fall (side_of c k) ≡ side_of c (suc k)
    unfolding half_of side_at
    half-next c k =
        side_ext
        (set_of_cong max_nodes _ _ (λ v l. ap (λ (b : Bool). has (side c (at k)) v or b) (lead-some (at k) c v l)) ∙ sym (next-members c k))
        (tabulate_cong max_nodes _ _ (λ v l. next-entries c k v l))

    pub round-next : (k : ℕ) → round_of ups downs (search_at edge label t k) ≡ search_at edge label t (suc k)
    unfolding round_of search_at side_at
    round-next k = search_ext (half-next true k) (half-next false k)

    -- ---- the last round

    -- a class that gains no node stays as it is
    stays : (c : Bool) (k : ℕ) → Gainless (side c (at k)) (side c (at (suc k))) → side c (at (suc k)) ≡ side c (at k)
    stays c k h =
        set_ext max_nodes _ (has (side c (at k))) (layer-lt max_nodes edge label t (suc k) c)
        (λ v l. iff _ _ (h v l) (layer-grow max_nodes edge label t k (suc k) c v (omega arith)))
        ∙ set_of-has max_nodes _ (layer-lt max_nodes edge label t k c)

    pub still-last : (k : ℕ) → k ≤ rounds → Gainless (search_at edge label t k).free.members (search_at edge label t (suc k)).free.members
        → Gainless (search_at edge label t k).falling.members (search_at edge label t (suc k)).falling.members
        → search_at edge label t k ≡ search_at edge label t rounds
    unfolding search_at side_at
    still-last k l f g =
        ap (λ (s : Layer). let r : Search = record { free = side_at edge label t true s.free; falling = side_at edge label t false s.fall } in r)
        (sym (layer-still max_nodes edge label t k (layer_ext (stays true k f) (stays false k g)) rounds l))

    last-entries : (c : Bool) → (side_of c rounds).entries ≡ tabulate max_nodes (λ v. entry max_nodes edge label t c v)
    unfolding side_at
    last-entries c = tabulate_cong max_nodes _ _ (λ v l.
        bcase (has (side c (at rounds)) v) (λ h. rw h)
        (λ h. rw h (sym (entry-never max_nodes edge label t rounds (layer-rest max_nodes edge label t low _ (omega arith)) c v l h))))

    pub free-at : {s : Search} → s ≡ search_at edge label t rounds → s.free.entries ≡ tabulate max_nodes (λ v. entry max_nodes edge label t true v)
    unfolding search_at
    free-at e = rw e (last-entries true)

    pub falling-at : {s : Search} → s ≡ search_at edge label t rounds → s.falling.entries ≡ tabulate max_nodes (λ v. entry max_nodes edge label t false v)
    unfolding search_at
    falling-at e = rw e (last-entries false)

-- ---- round by round

-- after k rounds the members of layer k have their entries
abbrev pub Searching : ℕ → Ways → Search → ℕ → Type 0
Searching t ways s k = OfWays ways (λ edge label. s ≡ search_at edge label t k)

module _ {t : ℕ} {ways : Ways} (low : t < max_nodes) where
  pub searching_none : {s : Search} → s ≡ search_from t → Searching t ways s 0
  searching_none e edge label p = e ∙ start-at edge label t low

  next-at : {s next : Search} (k : ℕ) → Searching t ways s k → next ≡ round_of ways.up ways.down s → Searching t ways next (suc k)
  next-at k h e edge label p = e ∙ rw (p, h edge label p) (round-next edge label t low k)

  pub searching_more : {s next : Search} (k : ℕ) → Searching t ways s k → next ≡ round_of ways.up ways.down s → Searching t ways next (k + 1)
  searching_more k h e = rw add-one (next-at k h e)

  -- where neither class has gained a node the search has come to its end
  pub searching_still : {s next : Search} (k : ℕ) {newFree newFalling new : ℕ} → Searching t ways s k → k ≤ rounds → next ≡ round_of ways.up ways.down s
      → newFree ≡ set_of max_nodes (λ v. has next.free.members v & non (has s.free.members v))
      → newFalling ≡ set_of max_nodes (λ v. has next.falling.members v & non (has s.falling.members v))
      → new ≡ set_of max_nodes (λ v. has newFree v or has newFalling v) → new ≡ 0 → Searching t ways s rounds
  searching_still {s} {next} k {newFree} {newFalling} h l e f g n z edge label p =
      let a = h edge label p in
      let b = next-at k h e edge label p in
      a ∙ still-last edge label t low k l (rw (a, b) at free) (rw (a, b) at falling)
    where
      none : (v : ℕ) → v < max_nodes → has newFree v or has newFalling v ≡ false
      none v b = sym (has-set_of max_nodes _ v b) ∙ ap (λ (x : ℕ). has x v) (sym n ∙ z) ∙ has_0 v

      free : Gainless s.free.members next.free.members
      free v b i = or_case _ _ (gained _ _ f v b i) (λ j. j) (λ j. no_tf (or_l _ j) (none v b))

      falling : Gainless s.falling.members next.falling.members
      falling v b i = or_case _ _ (gained _ _ g v b i) (λ j. j) (λ j. no_tf (or_r _ j) (none v b))
