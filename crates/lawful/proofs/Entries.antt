-- An entry is the lowest first node of a shortest way, in either class, and 255 where there is no way; both entries are determined.
use mathlib.Core.Path.{◌≡◌, refl, sym, ◌∙◌, ap}
use mathlib.Core.Bool.{Bool, true, false}
use mathlib.Core.List.{List, [], ◌∷◌}
use mathlib.Core.Logic.{◌↔◌}
use Prim.Native.Nat.{ℕ, suc, ◌+◌, ◌-◌, ◌≤◌, ◌<◌, suc-le-suc}
use native.Mathlib.Nat.{le_refl}
use native.Mathlib.Omega.{arith}
use Rattle.finite.specs.Truth.{same, below}
use Rattle.finite.specs.Search.{any}
use Rattle.finite.specs.Sets.{has}
use Rattle.finite.proofs.Truth.{no_tf, bcase, refute, or_r, same-eq, same-ne, ne_same, same_refl, below-lt, below-le, lt-below, le_below}
use Rattle.finite.proofs.Search.{some-any, least-fact, least-found, least_unique}
use Rattle.graph.specs.Network.{Network}
use Rattle.lawful.specs.Turn.{Distinct}
use Rattle.lawful.specs.Path.{Begins}
use Rattle.lawful.specs.Entry.{Layer, leads, layer, lowest_lead, first_layer, none, entry}
use Rattle.finite.proofs.Search.{any-least}
use Rattle.lawful.proofs.Run.{Hop, Run, done, hop, Fewest, hop-edge}
use Rattle.lawful.proofs.Layers.{side, Lead, leads-hop, hop-leads, layer-run, run-layer, layer-more, layer-grow, layer-start, layer-rest, layer-still}
use Rattle.lawful.proofs.Paths.{WayTo, way-first, way-run, run-way, way-none, hop-shortest}

-- an entry is determined: no other node is the lowest that begins a shortest path
pub begins_unique : {P : List ℕ → Type 0} {u w : ℕ} → Begins P u → Begins P w → u ≡ w
begins_unique a b = let x = a.lowest _ _ b.shortest in let y = b.lowest _ _ a.shortest in omega arith

-- u is the lowest node to which a first hop of a shortest run leads; k hops are left from there
pub record Starts (n : ℕ) (edge : ℕ → ℕ → Bool) (label : ℕ → ℕ) (c : Bool) (v t u k : ℕ) : Type 0 where
  pub low : u < n
  pub next : Bool
  pub first : Hop edge label c v next u
  pub run : Run edge label next u t k
  pub fewest : Fewest edge label c v t (suc k)
  pub lowest : {d : Bool} {w j : ℕ} → Hop edge label c v d w → Run edge label d w t j → j ≤ k → u ≤ w

module _ (n : ℕ) (edge : ℕ → ℕ → Bool) (label : ℕ → ℕ) (t : ℕ) where
  abbrev at : ℕ → Layer
  at k = layer n edge label t k

  -- some hop from v leads into layer k
  abbrev enters : Bool → ℕ → ℕ → Bool
  enters c v k = any n (leads edge label (at k) c v)

  abbrev first : Bool → ℕ → ℕ
  first c v = first_layer n edge label t c v

  abbrev lowest : Bool → ℕ → ℕ
  lowest c v = lowest_lead n edge label (at (first c v)) c v

  -- RULES 5.2: "For t = v it is v."
  pub entry-self : (c : Bool) → entry n edge label t c t ≡ t
  unfolding entry
  entry-self c = rw (same_refl t, entry)

  entry-lowest : (c : Bool) (v : ℕ) → (v ≡ t → ⊥) → lowest c v < n → entry n edge label t c v ≡ lowest c v
  unfolding entry
  entry-lowest c v d l = rw (ne_same d, entry, lt-below l)

  entry-missing : (c : Bool) (v : ℕ) → (v ≡ t → ⊥) → n ≤ lowest c v → entry n edge label t c v ≡ none
  unfolding entry
  entry-missing c v d l = rw (ne_same d, entry, le_below l)

  lowest-leads : (c : Bool) (v : ℕ) → lowest c v < n → Lead edge label (at (first c v)) c v (lowest c v)
  unfolding lowest_lead
  lowest-leads c v l = leads-hop edge label (at (first c v)) c v (lowest c v) (least-fact n _ l)

  module _ (inside : (a b : ℕ) → edge a b ≡ true → b < n) (low : t < n) where
    run_enters : {c : Bool} {v j : ℕ} (k : ℕ) → Run edge label c v t (suc j) → j ≤ k → enters c v k ≡ true
    run_enters k (hop h r) l =
        let b = inside _ _ (hop-edge h) in some-any n _ _ b (hop-leads (at k) h (run-layer n edge label t inside k r l b))

    first-le : {c : Bool} {v j : ℕ} → Run edge label c v t (suc j) → first c v ≤ j
    unfolding first_layer
    first-le {c} {v} {j} r = least-found (n + n) (enters c v) j (run_enters j r (le_refl j))

    -- from layer 2 n - 2 on nothing is added, so a shortest run has fewer than 2 n hops
    pub first-bound : {c : Bool} {v j : ℕ} → Run edge label c v t (suc j) → suc (first c v) < n + n
    unfolding first_layer
    first-bound {c} {v} {j} r =
        let k : ℕ = n + n - 2 in
        bcase (below j k) (λ b. let l = below-lt _ _ b in let f = first-le r in omega arith)
        (λ b.
        let rest : at j ≡ at k = layer-still n edge label t k (layer-rest n edge label t low k (omega arith)) j (below-le _ _ b) in
        let f = least-found (n + n) (enters c v) k (ap (λ (s : Layer). any n (leads edge label s c v)) (sym rest) ∙ run_enters j r (le_refl j)) in
        omega arith)

    first-enters : {c : Bool} {v j : ℕ} → Run edge label c v t (suc j) → enters c v (first c v) ≡ true
    unfolding first_layer
    first-enters {c} {v} r = least-fact (n + n) (enters c v) (let b = first-bound r in omega arith)

    first-fewest : {c : Bool} {v : ℕ} → (v ≡ t → ⊥) → Fewest edge label c v t (suc (first c v))
    first-fewest d _ done = absurd (d refl)
    first-fewest d _ (hop h r) = suc-le-suc (first-le (hop h r))

    lowest-lt : {c : Bool} {v j : ℕ} → Run edge label c v t (suc j) → lowest c v < n
    unfolding lowest_lead
    lowest-lt r = any-least n _ (first-enters r)

    lowest_starts : {c : Bool} {v j : ℕ} → (v ≡ t → ⊥) → Run edge label c v t (suc j) → Starts n edge label c v t (lowest c v) (first c v)
    unfolding lowest_lead
    lowest_starts {c} {v} d r =
        let f = lowest-leads c v (lowest-lt r) in
        let w = layer-run n edge label t (first c v) f.next (lowest c v) f.lands in
        let near = w.near in
        let least = first-le (hop f.first w.run) in
        let e : w.hops ≡ first c v = omega arith in
        record {
          low = lowest-lt r;
          next = f.next;
          first = f.first;
          run = rw e at w.run;
          fewest = first-fewest d;
          lowest = λ h r l.
              least-found n (leads edge label (at (first c v)) c v) _
              (hop-leads (at (first c v)) h (run-layer n edge label t inside (first c v) r l (inside _ _ (hop-edge h))));
        }

    -- the entry starts a shortest run, which has one hop more than the number of the first layer
    pub entry_starts : {c : Bool} {v j : ℕ} → (v ≡ t → ⊥) → Run edge label c v t j
        → Starts n edge label c v t (entry n edge label t c v) (first_layer n edge label t c v)
    entry_starts d done = absurd (d refl)
    entry_starts d (hop h r) = rw (entry-lowest _ _ d (lowest-lt (hop h r))) (lowest_starts d (hop h r))

  no-run-entry : (c : Bool) (v : ℕ) → (v ≡ t → ⊥) → ((j : ℕ) → Run edge label c v t j → ⊥) → entry n edge label t c v ≡ none
  no-run-entry c v d h =
      bcase (below (lowest c v) n)
      (λ b.
      let f = lowest-leads c v (below-lt _ _ b) in
      let w = layer-run n edge label t (first c v) f.next (lowest c v) f.lands in
      absurd (h _ (hop f.first w.run)))
      (λ b. entry-missing c v d (below-le _ _ b))

  -- ---- how the entries are found, layer by layer

  enters-joins : (k : ℕ) (c : Bool) (v : ℕ) → v < n → enters c v k ≡ true → has (side c (at (suc k))) v ≡ true
  enters-joins k c v l h = layer-more n edge label t k c v l ∙ or_r _ h

  outside_other : (k : ℕ) (c : Bool) (v : ℕ) → v < n → has (side c (at k)) v ≡ false → v ≡ t → ⊥
  outside_other k c v l h e = no_tf (layer-start n edge label t (omega arith) k c) (ap (has (side c (at k))) (sym e) ∙ h)

  -- layer k is the first into which a hop leads from a node that joins after it
  pub first-joins : t < n → (k : ℕ) (c : Bool) (v : ℕ) → v < n → has (side c (at k)) v ≡ false → any n (leads edge label (at k) c v) ≡ true
      → first_layer n edge label t c v ≡ k
  unfolding first_layer
  first-joins low k c v l h j =
      least_unique (n + n) (enters c v) k
      (bcase (below (suc (suc k)) (n + n)) (λ b. let z = below-lt _ _ b in omega arith)
      (λ b.
      no_tf
      (ap (λ (s : Layer). has (side c s) v) (sym (layer-rest n edge label t low k (below-le _ _ b))) ∙ enters-joins k c v l j)
      h))
      (λ b. j)
      (λ i b. refute _ (λ g. no_tf (layer-grow n edge label t (suc i) k c v b (enters-joins i c v l g)) h))

  -- and its entry is the lowest node that brings it in
  pub entry-joins : t < n → (k : ℕ) (c : Bool) (v : ℕ) → v < n → has (side c (at k)) v ≡ false → any n (leads edge label (at k) c v) ≡ true
      → entry n edge label t c v ≡ lowest_lead n edge label (at k) c v
  unfolding lowest_lead
  entry-joins low k c v l h j =
      let e : lowest c v ≡ lowest_lead n edge label (at k) c v =
      ap (λ (i : ℕ). lowest_lead n edge label (at i) c v) (first-joins low k c v l h j) in
      let b = any-least n (leads edge label (at k) c v) j in
      entry-lowest c v (outside_other k c v l h) (omega arith) ∙ e

  -- a node outside a layer that equals the next one has none
  pub entry-never : (k : ℕ) → at (suc k) ≡ at k → (c : Bool) (v : ℕ) → v < n → has (side c (at k)) v ≡ false → entry n edge label t c v ≡ none
  unfolding lowest_lead
  entry-never k e c v l h =
      bcase (below (lowest c v) n)
      (λ b.
      let low = below-lt _ _ b in
      let m = enters-joins (first c v) c v l (some-any n _ (lowest c v) low (least-fact n _ low)) in
      no_tf
      (bcase (below k (suc (first c v)))
      (λ y. ap (λ (s : Layer). has (side c s) v) (sym (layer-still n edge label t k e (suc (first c v)) (let z = below-lt _ _ y in omega arith))) ∙ m)
      (λ y. layer-grow n edge label t (suc (first c v)) k c v (below-le _ _ y) m))
      h)
      (λ b. entry-missing c v (outside_other k c v l h) (below-le _ _ b))

-- ---- entries and paths

module _ (edge : ℕ → ℕ → Bool) (label : ℕ → ℕ) (distinct : Distinct edge label) where
  pub starts_begins : {n : ℕ} {c : Bool} {v t u k : ℕ} → Starts n edge label c v t u k → Begins (WayTo edge label c v t) u
  starts_begins {c = c} {v} {t} {u} {k} s =
      let w = run-way edge label distinct s.run in
      let short = w.short in
      let here = hop-shortest edge label distinct t w.list s.first w.way w.short s.fewest in
      record {
        rest = w.list;
        shortest = here;
        lowest = λ x m h.
            let o = way-first edge label distinct c v x t m h.is in
            let b = h.least (u ∷ w.list) here.is in
            s.lowest o.first (way-run edge label distinct o.next x t m o.rest) (omega arith);
      }

module _ (n : ℕ) (edge : ℕ → ℕ → Bool) (label : ℕ → ℕ) (net : Network n edge) (distinct : Distinct edge label) where
  -- where some way leads from v to another node t, the entry is the first node of a shortest, and the lowest that begins one
  pub entry-begins : (c : Bool) (v t : ℕ) (l : List ℕ) → t < n → (v ≡ t → ⊥) → WayTo edge label c v t l
      → Begins (WayTo edge label c v t) (entry n edge label t c v) × (entry n edge label t c v < n)
  entry-begins c v t l b d w =
      let s = entry_starts n edge label t net.inside b d (way-run edge label distinct c v t l w) in
      (starts_begins edge label distinct s, s.low)

  -- where none does, it is 255
  pub entry-none : (c : Bool) (v t : ℕ) → (v ≡ t → ⊥) → ((l : List ℕ) → WayTo edge label c v t l → ⊥) → entry n edge label t c v ≡ none
  entry-none c v t d h = no-run-entry n edge label t c v d (λ j r. let w = run-way edge label distinct r in h w.list w.way)

  -- 255 exactly when no way exists
  pub entry-none-iff : n ≤ 255 → (c : Bool) (v t : ℕ) → v < n → t < n
      → (entry n edge label t c v ≡ none) ↔ ((l : List ℕ) → WayTo edge label c v t l → ⊥)
  entry-none-iff fits c v t a b =
      bcase (same v t)
      (λ e.
      let p = same-eq v t e in
      let q : entry n edge label t c v ≡ v = rw p (entry-self n edge label t c) in
      (λ x. absurd (omega arith), λ h. absurd (h [] (rw p (way-none edge label c t)))))
      (λ e.
      let d = same-ne v t e in
      (λ x l w. let y = (entry-begins c v t l b d w).1 in omega arith, entry-none c v t d))
