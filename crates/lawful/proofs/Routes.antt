-- Routes: each hop that follows the entries lowers the distance by one, so a route arrives and has the shortest lawful length.
use mathlib.Core.Path.{◌≡◌, refl, sym, ◌∙◌, ap}
use mathlib.Core.Bool.{Bool, true, false}
use mathlib.Core.List.{List, [], ◌∷◌}
use mathlib.Core.Logic.{◌↔◌, ◌⊎◌, inl, inr}
use Prim.Native.Nat.{ℕ, zero, suc, ◌+◌, ◌≤◌, ◌<◌, zero-le}
use native.Mathlib.Nat.{le_of_suc-le-suc, le_of_lt}
use native.Mathlib.Omega.{arith}
use lib.ListN.{length}
use Rattle.finite.specs.Truth.{same}
use Rattle.finite.specs.Sets.{has}
use Rattle.finite.proofs.Truth.{no_tf, bcase, same-eq, same-ne, ne_same, same_refl}
use Rattle.graph.specs.Network.{Network}
use Rattle.lawful.specs.Turn.{Distinct, Climbing}
use Rattle.lawful.specs.Path.{LawfulTo, Shortest}
use Rattle.lawful.specs.Entry.{layer, first_layer, entry, free_after, follow, route_of}
use Rattle.lawful.proofs.Run.{Hop, Run, done, hop, Fewest, hop-after}
use Rattle.lawful.proofs.Layers.{side, layer-run, run-layer}
use Rattle.lawful.proofs.Paths.{WayTo, run-way, way-run, way-none, hop-shortest}
use Rattle.lawful.proofs.Climb.{climbing-way}
use Rattle.lawful.proofs.Entries.{entry_starts, first-bound}

-- the distance: how many hops a message of the class at v still has to go to t
unfoldable pub hops_of : ℕ → (ℕ → ℕ → Bool) → (ℕ → ℕ) → ℕ → Bool → ℕ → ℕ
hops_of n edge label t c v = elim (same v t) [ true ↦ 0 | false ↦ suc (first_layer n edge label t c v) ]

-- after a hop from v to u a message that had k + 1 hops to go has k
pub record Nearer (n : ℕ) (edge : ℕ → ℕ → Bool) (label : ℕ → ℕ) (t : ℕ) (c : Bool) (v u : ℕ) : Type 0 where
  pub low : u < n
  pub first : Hop edge label c v (free_after edge label c v u) u
  pub run : Run edge label (free_after edge label c v u) u t (hops_of n edge label t (free_after edge label c v u) u)
  pub less : hops_of n edge label t c v ≡ suc (hops_of n edge label t (free_after edge label c v u) u)

module _ (n : ℕ) (edge : ℕ → ℕ → Bool) (label : ℕ → ℕ) (t : ℕ) where
  abbrev hops : Bool → ℕ → ℕ
  hops c v = hops_of n edge label t c v

  pub hops-self : (c : Bool) → hops_of n edge label t c t ≡ 0
  unfolding hops_of
  hops-self c = rw (same_refl t, hops_of)

  pub hops-other : (c : Bool) (v : ℕ) → (v ≡ t → ⊥) → hops_of n edge label t c v ≡ suc (first_layer n edge label t c v)
  unfolding hops_of
  hops-other c v d = rw (ne_same d, hops_of)

  -- the distance is 0 at t alone
  pub hops-zero : (c : Bool) (v : ℕ) → (hops_of n edge label t c v ≡ 0) ↔ (v ≡ t)
  hops-zero c v = (
    λ h. bcase (same v t) (same-eq v t) (λ d. let e = hops-other c v (same-ne v t d) in absurd (omega arith)),
    λ e. rw e (hops-self c),
  )

  module _ (inside : (a b : ℕ) → edge a b ≡ true → b < n) (low : t < n) where
    -- where some run leads to t, one has the distance for its hops, and none has fewer
    pub hops-run : {c : Bool} {v j : ℕ} → Run edge label c v t j → Run edge label c v t (hops_of n edge label t c v)
    hops-run {c} {v} r =
        bcase (same v t) (λ e. rw (same-eq v t e, hops-self c) done)
        (λ e.
        let d = same-ne v t e in
        let s = entry_starts n edge label t inside low d r in
        rw (hops-other c v d) (hop s.first s.run))

    pub hops-fewest : (c : Bool) (v : ℕ) → Fewest edge label c v t (hops_of n edge label t c v)
    hops-fewest c v j r =
        bcase (same v t) (λ e. rw (same-eq v t e, hops-self c) zero-le)
        (λ e.
        let d = same-ne v t e in
        rw (hops-other c v d) ((entry_starts n edge label t inside low d r).fewest j r))

    hops_unique : {c : Bool} {v k : ℕ} → Run edge label c v t k → Fewest edge label c v t k → hops_of n edge label t c v ≡ k
    hops_unique {c} {v} r f = let a = hops-fewest c v _ r in let b = f _ (hops-run r) in omega arith

    pub hops-bound : {c : Bool} {v j : ℕ} → Run edge label c v t j → hops_of n edge label t c v < n + n
    hops-bound (done {c = c}) = let e = hops-self c in omega arith
    hops-bound (hop {c = c} {v = v} h r) =
        let b = first-bound n edge label t inside low (hop h r) in
        bcase (same v t) (λ e. let z : hops c v ≡ 0 = rw (same-eq v t e) (hops-self c) in omega arith)
        (λ e. let z = hops-other c v (same-ne v t e) in omega arith)

    shortest-nearer : {c d : Bool} {v u k : ℕ} → u < n → Hop edge label c v d u → Run edge label d u t k → Fewest edge label c v t (suc k)
        → Nearer n edge label t c v u
    shortest-nearer {u = u} b h r f =
        let e = hop-after h in
        let rest = hops_unique r (λ j q. le_of_suc-le-suc (f _ (hop h q))) in
        record {
          low = b;
          first = rw e h;
          run = rw e (hops-run r);
          less = hops_unique (hop h r) f ∙ ap suc (sym rest ∙ ap (λ (x : Bool). hops x u) (sym e));
        }

    -- one hop along the entry
    pub entry-nearer : {c : Bool} {v j : ℕ} → (v ≡ t → ⊥) → Run edge label c v t j → Nearer n edge label t c v (entry n edge label t c v)
    entry-nearer d r = let s = entry_starts n edge label t inside low d r in shortest-nearer s.low s.first s.run s.fewest

-- ---- following the entries

module _ (edge : ℕ → ℕ → Bool) (label : ℕ → ℕ) (next : Bool → ℕ → ℕ) (t : ℕ) where
  pub follow-here : (k : ℕ) (c : Bool) → follow edge label next t k c t ≡ []
  unfolding follow
  follow-here zero c = refl
  follow-here (suc k) c = rw (same_refl t, follow)

  pub follow-there : (k : ℕ) (c : Bool) (v : ℕ) → (v ≡ t → ⊥)
      → follow edge label next t (suc k) c v ≡ next c v ∷ follow edge label next t k (free_after edge label c v (next c v)) (next c v)
  unfolding follow
  follow-there k c v d = rw (ne_same d, follow)

-- a message to its own node has no hops to go
pub route-self : (n : ℕ) (edge : ℕ → ℕ → Bool) (label : ℕ → ℕ) (v : ℕ) → route_of n edge label v v ≡ []
unfolding route_of
route-self n edge label v = follow-here edge label (entry n edge label v) v (n + n) true

-- the list is a shortest way, with as many hops as the distance
pub record IsRoute (n : ℕ) (edge : ℕ → ℕ → Bool) (label : ℕ → ℕ) (c : Bool) (v t : ℕ) (l : List ℕ) : Type 0 where
  pub shortest : Shortest (WayTo edge label c v t) l
  pub count : length l ≡ hops_of n edge label t c v

module _ (n : ℕ) (edge : ℕ → ℕ → Bool) (label : ℕ → ℕ) (inside : (a b : ℕ) → edge a b ≡ true → b < n) (distinct : Distinct edge label) where
  route-none : (c : Bool) (v t : ℕ) → v ≡ t → IsRoute n edge label c v t []
  route-none c v t e = record {
    shortest = record { is = rw e (way-none edge label c t); least = λ m w. zero-le };
    count = sym ((hops-zero n edge label t c v).1 e);
  }

  route-more : {c : Bool} {v t u : ℕ} (l : List ℕ) → t < n → Nearer n edge label t c v u → IsRoute n edge label (free_after edge label c v u) u t l
      → IsRoute n edge label c v t (u ∷ l)
  route-more {c} {v} {t} {u} l low s i = record {
    shortest = hop-shortest edge label distinct t l s.first i.shortest.is (let e = i.count in omega arith)
        (rw s.less at (hops-fewest n edge label t inside low c v));
    count = ap suc i.count ∙ sym s.less;
  }

  -- the entries lead from any class and node on a shortest way, if there is one, within as many hops as the distance
  pub follow-route : (k : ℕ) {c : Bool} {v t j : ℕ} → t < n → Run edge label c v t j → hops_of n edge label t c v ≤ k
      → IsRoute n edge label c v t (follow edge label (entry n edge label t) t k c v)
  unfolding follow
  follow-route zero {c} {v} {t} low r b = route-none c v t ((hops-zero n edge label t c v).0 (omega arith))
  follow-route (suc k) {c} {v} {t} low r b =
      bcase (same v t) (λ e. rw (e, follow) (route-none c v t (same-eq v t e)))
      (λ e.
      let s = entry-nearer n edge label t inside low (same-ne v t e) r in
      let less = s.less in
      rw (e, follow) (route-more _ low s (follow-route k low s.run (omega arith))))

-- ---- the route of a free message

module _ (n : ℕ) (edge : ℕ → ℕ → Bool) (label : ℕ → ℕ) (net : Network n edge) (distinct : Distinct edge label) where
  -- where a lawful path leads from v to t, the route is a shortest one, and its length is the distance
  pub route-shortest : (v t : ℕ) (l : List ℕ) → t < n → LawfulTo edge label v t l → IsRoute n edge label true v t (route_of n edge label v t)
  unfolding route_of
  route-shortest v t l low w =
      let r = way-run edge label distinct true v t l w in
      follow-route n edge label net.inside distinct (n + n) low r (le_of_lt (hops-bound n edge label t net.inside low r))

-- some way leads from v to t, or none does: the layers decide it
pub way_or_none : (n : ℕ) (edge : ℕ → ℕ → Bool) (label : ℕ → ℕ) → Network n edge → Distinct edge label → (c : Bool) (v t : ℕ) → v < n → t < n
    → ((l : List ℕ) × WayTo edge label c v t l) ⊎ ((l : List ℕ) → WayTo edge label c v t l → ⊥)
way_or_none n edge label net distinct c v t a b =
    bcase (has (side c (layer n edge label t (n + n))) v)
    (λ h. let w = run-way edge label distinct (layer-run n edge label t (n + n) c v h).run in inl (w.list, w.way))
    (λ h.
    inr (λ l w.
    let r = way-run edge label distinct c v t l w in
    no_tf (run-layer n edge label t net.inside {c = c} (n + n) (hops-run n edge label t net.inside b r)
    (le_of_lt (hops-bound n edge label t net.inside b r)) a) h))

-- in a climbing labelling every pair of nodes has such a route
pub climbing-route : (n : ℕ) (edge : ℕ → ℕ → Bool) (label : ℕ → ℕ) → Network n edge → Climbing n edge label → (v t : ℕ) → v < n → t < n
    → IsRoute n edge label true v t (route_of n edge label v t)
climbing-route n edge label net climbing v t a b =
    let w = climbing-way n edge label climbing net.undirected v t a b in route-shortest n edge label net climbing.distinct v t w.0 b w.1
