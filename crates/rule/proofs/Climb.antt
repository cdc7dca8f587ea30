-- Each node but the one labelled last has a neighbour with a higher label; and where two nodes remain, the lower number is chosen.
use mathlib.Core.Path.{◌≡◌, refl, sym, ◌∙◌, ap, subst}
use mathlib.Core.Bool.{Bool, true}
use mathlib.Core.Logic.{◌⊎◌, ⊎_elim}
use Prim.Native.Nat.{ℕ, zero, suc, ◌+◌, ◌*◌, ◌-◌, ◌≤◌, ◌<◌, zero-le}
use native.Mathlib.Nat.{le_dest, le_of_eq, le_trans}
use native.Mathlib.Omega.{arith}
use borrow.Author.Tests.{le-leb}
use Rattle.finite.specs.Truth.{◌&◌, same, below}
use Rattle.finite.specs.Search.{Some}
use Rattle.finite.specs.Sets.{without}
use Rattle.finite.proofs.Truth.{both, refute, and_l, and_r, true-non, same-eq, eq-same, lt-below}
use Rattle.finite.proofs.Sum.{count-le, count-member, sum-only}
use Rattle.finite.proofs.Sets.{without_in, without-ne}
use Rattle.graph.specs.Network.{Network, Members, Connected, Walk, here, among, degree}
use Rattle.graph.proofs.Walk.{among-edge, among-to, first-link}
use Rattle.graph.proofs.Connected.{cut-iff}
use Rattle.lawful.specs.Turn.{rises, Climbing, label_in}
use Rattle.rule.specs.Candidate.{room, candidate, choice}
use Rattle.rule.specs.Labels.{labels_of, above}
use Rattle.rule.proofs.Exists.{candidate_exists}
use Rattle.rule.proofs.Choice.{choice-chosen, candidate_in}
use Rattle.rule.proofs.Labels.{label, in_above, above_low, above_gt, above-connected, label_pos, label_once, label-le, labels-by_rule}

module _ (n : ℕ) (edge : ℕ → ℕ → Bool) (net : Network n edge) (m : ℕ) (small : m ≤ n) (whole : Connected edge (λ v. below v m)) where
  abbrev l : ℕ → ℕ
  l = label n edge net m small whole

  -- each node but the one labelled N has a neighbour with a higher label
  pub label-climbs : (v : ℕ) → v < m → l v < m → Some m (λ u. edge v u & below (l v) (l u))
  label-climbs v b h =
      let (k, q) = le_dest (label_pos n edge net m small whole v b) in
      let (j, p) = le_dest h in
      let top = (labels-by_rule n edge net m small whole).given (l v + j) (omega arith) in
      let e = same-eq _ _ top.fact in
      let R : ℕ → Bool = above m l k in
      let w = above-connected n edge net m small whole k (omega arith) v top.at (in_above m l b (omega arith)) (in_above m l top.low (omega arith)) in
      let (u, f) = first-link w (λ i. let x : l v ≡ l top.at = ap l i in omega arith) in
      let c = among-to R edge v u f in
      let a = above_low m l k u c in
      let g = above_gt m l k u c in
      let d : l v ≡ l u → ⊥ = λ x.
      net.no_loop v (subst (λ (y : ℕ). edge v y ≡ true) (sym (label_once n edge net m small whole v u b a x)) (among-edge R edge v u f)) in
      record { at = u; low = a; fact = both (among-edge R edge v u f) (lt-below (omega arith)) }

-- what lawful paths need of labels, for a network of m nodes: neighbours have different labels, and all but the top one can climb
pub labels-climbing : (n m : ℕ) (edge : ℕ → ℕ → Bool) (net : Network m edge) (small : m ≤ n) → Connected edge (λ v. below v m)
    → 0 < m → Climbing m edge (label_in (labels_of n edge m))
unfolding rises
labels-climbing n m edge net small whole pos =
    let wide : Network n edge = record { undirected = net.undirected; no_loop = net.no_loop; inside = λ a b h. let k = net.inside a b h in omega arith } in
    let (k, e) = le_dest pos in
    let top = (labels-by_rule n edge wide m small whole).given k (omega arith) in
    record {
      distinct = λ a b h q.
          net.no_loop a (subst (λ (x : ℕ). edge a x ≡ true)
          (sym (label_once n edge wide m small whole a b (net.inside b a (net.undirected a b h)) (net.inside a b h) q)) h);
      top = top.at;
      climbs = λ v l d.
          let t = same-eq _ _ top.fact in
          let b = label-le n edge wide m small whole v in
          let ne : label n edge wide m small whole v ≡ m → ⊥ =
          λ q. d (label_once n edge wide m small whole v top.at l top.low (omega arith)) in
          label-climbs n edge wide m small whole v l (omega arith);
    }

-- ---- two remaining nodes

module _ (n : ℕ) (edge : ℕ → ℕ → Bool) (net : Network n edge) (R : ℕ → Bool) (m : Members n R) (whole : Connected edge R) (a b : ℕ) (order : a < b)
    (ra : R a ≡ true) (rb : R b ≡ true) (two : (u : ℕ) → R u ≡ true → (a ≡ u) ⊎ (b ≡ u)) where
  -- a is next to b at most, and b is next to some node
  degree_a : degree n edge R a ≤ 1
  unfolding degree
  degree_a =
      let c = count-le n (λ u. R u & edge a u) (same b) (λ u k h.
      ⊎_elim (λ e. absurd (net.no_loop a (ap (edge a) e ∙ and_r _ _ h))) (λ e. eq-same e) (two u (and_l _ _ h))) in
      let o = sum-only n b (λ u. 1) (m b rb) in
      omega arith

  degree_b : 0 < degree n edge R b
  unfolding degree
  degree_b =
      let (u, f) = first-link (whole b a rb ra) (λ e. omega arith) in
      count-member n (λ x. R x & edge b x) u (m u (among-to R edge b u f)) (both (among-to R edge b u f) (among-edge R edge b u f))

  room_a : room n edge R a ≡ true
  unfolding room
  room_a = le-leb _ _ (le_trans (le_of_eq (flat (degree n edge R a) degree_a)) zero-le)
    where
      flat : (d : ℕ) → d ≤ 1 → d * (d - 1) ≡ 0
      flat zero h = refl
      flat (suc zero) h = refl
      flat (suc (suc d)) h = absurd (omega arith)

  candidate_a : candidate n edge R a ≡ true
  unfolding candidate
  candidate_a = both ra (both room_a (true-non (refute _ (λ t. (cut-iff n edge net R m a).0 t alone))))
    where
      only : (u : ℕ) → without R a u ≡ true → b ≡ u
      only u h = ⊎_elim (λ e. absurd (without-ne R a u h e)) (λ e. e) (two u (without_in R a u h))

      alone : Connected edge (without R a)
      alone x y hx hy = subst (λ (z : ℕ). Walk (among (without R a) edge) x z) (sym (only x hx) ∙ only y hy) here

  -- RULES 4.3: "Where two nodes remain, that is the lower number."
  pub lower-first : choice n edge R ≡ a
  lower-first =
      let c = choice-chosen n edge R (candidate_exists n edge net R m whole (record { at = a; low = m a ra; fact = ra })) in
      ⊎_elim (λ e. sym e)
      (λ e.
      let d = subst (λ (x : ℕ). 0 < degree n edge R x) e degree_b in
      let s = degree_a in
      ⊎_elim (λ i. absurd (omega arith)) (λ i. let j = i.1 in absurd (omega arith)) (c.first a (m a ra) candidate_a))
      (two (choice n edge R) (candidate_in n edge R _ c.fact))
