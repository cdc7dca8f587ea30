-- Only nodes with a hop to what joined last can join: any other that leads into the sets has joined before.
use mathlib.Core.Path.{◌≡◌, ◌∙◌}
use mathlib.Core.Bool.{Bool, true, false}
use mathlib.Core.List.{List}
use Prim.Native.Nat.{ℕ, ◌<◌}
use native.Mathlib.Omega.{arith}
use Rattle.finite.specs.Truth.{◌&◌, ◌or◌, non, same}
use Rattle.finite.specs.Sets.{has, set_of}
use Rattle.finite.proofs.Truth.{no_tf, bcase, both, and_l, and_r, or_l, or_r, or_case, true-non, below-lt, lt-below}
use Rattle.finite.proofs.Search.{some-any, least-fact, least-found}
use Rattle.finite.proofs.Sets.{has_0, has-set_of}
use Rattle.nodes.specs.Limits.{max_nodes}
use Rattle.network.specs.Table.{edge_of}
use Rattle.network.proofs.Table.{edge-table_from}
use Rattle.rows.specs.Steps.{leads_to, lead_of, into_of, touches, Worth, Asking, search_from, half_of, round_of}
use Rattle.rows.specs.declared.Side.{Side}
use Rattle.rows.specs.declared.Search.{Search}

-- ---- what joined last

-- what a set has, it had before or has gained
abbrev Gained : ℕ → ℕ → ℕ → Type 0
Gained old now new = (u : ℕ) → u < max_nodes → has now u ≡ true → has old u or has new u ≡ true

pub gained : (old now : ℕ) {new : ℕ} → new ≡ set_of max_nodes (λ u. has now u & non (has old u)) → Gained old now new
gained old now e u l t = bcase (has old u) (or_l _) (λ f. or_r _ (rw e (has-set_of max_nodes _ u l ∙ both t (true-non f))))

module _ (up down : List ℕ) where
  -- a node that is no member leads only to what is new
  abbrev pub Only : ℕ → ℕ → ℕ → ℕ → ℕ → Type 0
  Only free falling members newFree newFalling =
      (v u : ℕ) → v < max_nodes → u < max_nodes → has members v ≡ false → leads_to up down free falling v u ≡ true → leads_to up down newFree newFalling v u ≡ true

  -- what a search keeps from round to round
  pub record Frontier (s : Search) (newFree newFalling : ℕ) : Type 0 where
    pub free : Only s.free.members s.falling.members s.free.members newFree newFalling
    pub falling : Only 0 s.falling.members s.falling.members 0 newFalling

  -- before the first round all that has joined is new
  pub frontier_none : (t : ℕ) {s : Search} {newFree newFalling : ℕ} → s ≡ search_from t → newFree ≡ set_of max_nodes (same t) → newFalling ≡ set_of max_nodes (same t)
      → Frontier s newFree newFalling
  unfolding search_from
  frontier_none t e f g = rw (e, f, g) (record { free = λ v u k l j h. h; falling = λ v u k l j h. h })

  -- a node that half a round leaves outside led nowhere before it
  only-half : (free falling free' falling' newFree newFalling : ℕ) (side : Side) → Gained free free' newFree → Gained falling falling' newFalling
      → Only free' falling' (half_of up down free falling side).members newFree newFalling
  unfolding half_of lead_of
  only-half free falling free' falling' newFree newFalling side f g v u k l j h =
      or_case _ _ h
      (λ t. or_case _ _ (f u l (and_r _ _ t)) (λ i. absurd (nowhere (or_l _ (both (and_l _ _ t) i)))) (λ i. or_l _ (both (and_l _ _ t) i)))
      (λ t. or_case _ _ (g u l (and_r _ _ t)) (λ i. absurd (nowhere (or_r _ (both (and_l _ _ t) i)))) (λ i. or_r _ (both (and_l _ _ t) i)))
    where
      nowhere : leads_to up down free falling v u ≡ true → ⊥
      nowhere t =
          let b = least-found max_nodes (leads_to up down free falling v) u t in
          no_tf (has-set_of max_nodes _ v k ∙ or_r _ (lt-below (omega arith))) j

  pub frontier_more : (s : Search) {next : Search} {newFree newFalling : ℕ} → next ≡ round_of up down s
      → newFree ≡ set_of max_nodes (λ u. has next.free.members u & non (has s.free.members u))
      → newFalling ≡ set_of max_nodes (λ u. has next.falling.members u & non (has s.falling.members u)) → Frontier next newFree newFalling
  unfolding round_of
  frontier_more s e f g = rw e (record {
    free = only-half _ _ _ _ _ _ s.free (gained _ _ (rw e at f)) (gained _ _ (rw e at g));
    falling = only-half _ _ _ _ _ _ s.falling (λ u l t. or_l _ t) (gained _ _ (rw e at g));
  })

  -- ---- who is asked

  touched : (ways : List ℕ) (set : ℕ) {from : List ℕ} {r v u : ℕ} → from ≡ into_of ways → r ≡ set_of max_nodes (touches from set) → v < max_nodes → u < max_nodes
      → edge_of ways v u & has set u ≡ true → has r v ≡ true
  unfolding touches into_of
  touched ways set e f k l h =
      rw f (has-set_of max_nodes _ _ k ∙ some-any max_nodes _ _ l (both (and_r _ _ h) (rw e (edge-table_from _ _ _ l k ∙ and_l _ _ h))))

  worth : (free falling members newFree newFalling : ℕ) {asked : ℕ → Bool} → Only free falling members newFree newFalling
      → ((v u : ℕ) → v < max_nodes → u < max_nodes → leads_to up down newFree newFalling v u ≡ true → asked v ≡ true) → Worth up down free falling members asked
  unfolding lead_of
  worth free falling members newFree newFalling o a v k t =
      let l = below-lt _ _ t in
      bcase (has members v) (or_l _) (λ j. or_r _ (a v _ k l (o v _ k l j (least-fact max_nodes _ l))))

  pub asking : {s : Search} {newFree newFalling rise fall : ℕ} {over under : List ℕ} → Frontier s newFree newFalling → over ≡ into_of up → under ≡ into_of down
      → rise ≡ set_of max_nodes (touches over newFree) → fall ≡ set_of max_nodes (touches under newFalling) → Asking up down s rise fall
  asking h e f r d = record {
    free = worth _ _ _ _ _ h.free (λ v u k l t. or_case _ _ t (λ i. or_l _ (touched _ _ e r k l i)) (λ i. or_r _ (touched _ _ f d k l i)));
    falling = worth _ _ _ _ _ h.falling (λ v u k l t. or_case _ _ t (λ i. no_tf (and_r _ _ i) (has_0 u)) (touched _ _ f d k l));
  }
