-- A connected set R has a part that holds no cut node of R and that one node at the most borders on; that node has a neighbour outside the part too.
use mathlib.Core.Path.{◌≡◌, refl, sym, ◌∙◌, ap}
use mathlib.Core.Bool.{Bool, true, false}
use mathlib.Core.Logic.{⊎_elim}
use Prim.Native.Nat.{ℕ, ◌<◌}
use native.Mathlib.Omega.{arith}
use Rattle.finite.specs.Truth.{◌&◌, non, same}
use Rattle.finite.specs.Sum.{count}
use Rattle.finite.specs.Sets.{has, without}
use Rattle.finite.proofs.Truth.{no_tf, bcase, refute, both, and_l, and_r, non-true, true-non, same-eq, same-ne, same_refl}
use Rattle.finite.proofs.Sum.{count-le, count-without}
use Rattle.finite.specs.Search.{Some}
use Rattle.finite.proofs.Search.{find, smallest}
use Rattle.finite.proofs.Sets.{without_in, without-ne, in_without}
use Rattle.graph.specs.Network.{Network, Members, Walk, among, Connected}
use Rattle.graph.specs.Reach.{reach, cut}
use Rattle.graph.proofs.Walk.{walk-append, walk_reverse, walk-closed, among-from, among-to, among-edge, edge-among, among-network}
use Rattle.graph.proofs.Reach.{reach-start, reach-closed, reach-from}
use Rattle.graph.proofs.Connected.{cut-iff}

-- the neighbours of c in R outside H
abbrev pub across : (ℕ → ℕ → Bool) → (ℕ → Bool) → ℕ → (ℕ → Bool) → ℕ → Bool
across edge R c H w = R w & edge c w & non (H w)

-- a part H of R: no link of R leads out of it but to c, and where one does, c has a neighbour outside H too
pub record Part (n : ℕ) (edge : ℕ → ℕ → Bool) (R : ℕ → Bool) (c : ℕ) (H : ℕ → Bool) : Type 0 where
  pub some : Some n H
  pub member : (u : ℕ) → H u ≡ true → R u ≡ true
  pub closed : (u w : ℕ) → H u ≡ true → R w ≡ true → edge u w ≡ true → (c ≡ w → ⊥) → H w ≡ true
  pub border : (u : ℕ) → H u ≡ true → edge c u ≡ true → (R c ≡ true) × Some n (across edge R c H)

-- a part that holds no cut node of R
pub record UncutPart (n : ℕ) (edge : ℕ → ℕ → Bool) (R : ℕ → Bool) : Type 0 where
  pub c : ℕ
  pub H : ℕ → Bool
  pub part : Part n edge R c H
  pub uncut : (u : ℕ) → H u ≡ true → cut n edge R u ≡ false

-- the nodes that walks from a lead to inside R without x
unfoldable near : ℕ → (ℕ → ℕ → Bool) → (ℕ → Bool) → ℕ → ℕ → ℕ → Bool
near n edge R a x = has (reach n (among (without R x) edge) (same a))

-- the members of R without x that they do not lead to
unfoldable beyond : ℕ → (ℕ → ℕ → Bool) → (ℕ → Bool) → ℕ → ℕ → ℕ → Bool
beyond n edge R a x u = without R x u & non (near n edge R a x u)

module _ (n : ℕ) (edge : ℕ → ℕ → Bool) (net : Network n edge) (R : ℕ → Bool) (m : Members n R) (conn : Connected edge R) (a : ℕ) where
  abbrev Near : ℕ → ℕ → Bool
  Near = near n edge R a

  abbrev Beyond : ℕ → ℕ → Bool
  Beyond = beyond n edge R a

  -- a is a member of R, and is not x
  module _ (x : ℕ) (ax : without R x a ≡ true) where
    near-start : Near x a ≡ true
    unfolding near
    near-start = reach-start n (among (without R x) edge) (same a) a (m a (without_in R x a ax)) (same_refl a)

    near-walk : (u : ℕ) → Near x u ≡ true → Walk (among (without R x) edge) a u
    unfolding near
    near-walk u h = let f = reach-from n (among (without R x) edge) (same a) u h in rw (same-eq _ _ f.fact) f.walk

    near_in : (u : ℕ) → Near x u ≡ true → without R x u ≡ true
    near_in u h = walk-closed (λ v. without R x v ≡ true) (λ v w e t. among-to (without R x) edge v w e) (near-walk u h) ax

    near_step : (u w : ℕ) → Near x u ≡ true → without R x w ≡ true → edge u w ≡ true → Near x w ≡ true
    unfolding near
    near_step u w h r e =
        reach-closed n (among (without R x) edge) (same a) u w h (edge-among (without R x) edge (near_in u h) r e) (net.inside u w e)

    beyond_in : (u : ℕ) → Beyond x u ≡ true → without R x u ≡ true
    unfolding beyond
    beyond_in u h = and_l _ _ h

    not-both : (u : ℕ) → Near x u ≡ true → Beyond x u ≡ true → ⊥
    unfolding beyond
    not-both u q h = no_tf q (non-true _ (and_r _ _ h))

    in_beyond : (u : ℕ) → without R x u ≡ true → (Near x u ≡ true → ⊥) → Beyond x u ≡ true
    unfolding beyond
    in_beyond u h q = both h (true-non (refute _ q))

    in_near : (u : ℕ) → without R x u ≡ true → Beyond x u ≡ false → Near x u ≡ true
    in_near u h b = bcase (Near x u) (λ t. t) (λ t. no_tf (in_beyond u h (λ q. no_tf q t)) b)

    -- a cut node has members of R beyond it
    cut-beyond : cut n edge R x ≡ true → Some n (Beyond x)
    cut-beyond h = ⊎_elim (λ s. s) (λ none. absurd ((cut-iff n edge net R m x).0 h (joined none))) (find n (Beyond x))
      where
        joined : ((v : ℕ) → v < n → Beyond x v ≡ false) → Connected edge (without R x)
        joined none u w hu hw =
            let to : (v : ℕ) → without R x v ≡ true → Walk (among (without R x) edge) a v =
            λ v t. near-walk v (in_near v t (none v (m v (without_in R x v t)))) in
            walk-append (walk_reverse (among-network (without R x) net).undirected (to u hu)) (to w hw)

    -- the walk in R from a to x comes from a neighbour of x that is not beyond it
    near-neighbour : R x ≡ true → Some n (across edge R x (Beyond x))
    near-neighbour rx =
        ⊎_elim (λ s. s)
        (λ none.
        let step : (u w : ℕ) → among R edge u w ≡ true → Near x u ≡ true → Near x w ≡ true =
        λ u w e q.
        let ru = among-from R edge u w e in
        let uw = among-edge R edge u w e in
        bcase (same x w)
        (λ t.
        let xu = net.undirected u x (ap (edge u) (same-eq x w t) ∙ uw) in
        no_tf (both ru (both xu (true-non (refute _ (not-both u q))))) (none u (m u ru)))
        (λ t. near_step u w q (in_without R (among-to R edge u w e) (same-ne x w t)) uw) in
        absurd (without-ne R x x (near_in x (walk-closed (λ u. Near x u ≡ true) step (conn a x (without_in R x a ax) rx) near-start)) refl))
        (find n (across edge R x (Beyond x)))

    beyond-part : R x ≡ true → Some n (Beyond x) → Part n edge R x (Beyond x)
    beyond-part rx s = record {
      some = s;
      member = λ u h. without_in R x u (beyond_in u h);
      closed = λ u w h r e d.
          in_beyond w (in_without R r d) (λ q. not-both u (near_step w u q (beyond_in u h) (net.undirected u w e)) h);
      border = λ u h e. (rx, near-neighbour rx);
    }

  -- what is beyond a node z that is beyond x is beyond x, and is less
  module _ (x : ℕ) (ax : without R x a ≡ true) (rx : R x ≡ true) (z : ℕ) (az : without R z a ≡ true) (zx : Beyond x z ≡ true) where
    near_avoids : (u : ℕ) → Near x u ≡ true → without R z u ≡ true
    near_avoids u q = in_without R (without_in R x u (near_in x ax u q)) (λ e. not-both x ax z (ap (Near x) e ∙ q) zx)

    near-near : (u : ℕ) → Near x u ≡ true → Near z u ≡ true
    near-near u h =
        (walk-closed (λ v. (Near x v ≡ true) × (Near z v ≡ true))
        (λ v w e q.
        let vw = among-edge (without R x) edge v w e in
        let k = near_step x ax v w q.0 (among-to (without R x) edge v w e) vw in
        (k, near_step z az v w q.1 (near_avoids w k) vw))
        (near-walk x ax u h) (near-start x ax, near-start z az)).1

    near_x : Near z x ≡ true
    near_x =
        let w = near-neighbour x ax rx in
        let xw = and_l _ _ (and_r _ _ w.fact) in
        let other = in_without R (and_l _ _ w.fact) (λ e. net.no_loop x (ap (edge x) e ∙ xw)) in
        let q = in_near x ax w.at other (non-true _ (and_r _ _ (and_r _ _ w.fact))) in
        let rest = in_without R rx (λ e. without-ne R x z (beyond_in x ax z zx) (sym e)) in
        near_step z az w.at x (near-near w.at q) rest (net.undirected x w.at xw)

    beyond-beyond : (u : ℕ) → Beyond z u ≡ true → Beyond x u ≡ true
    beyond-beyond u h =
        in_beyond x ax u (in_without R (without_in R z u (beyond_in z az u h)) (λ e. not-both z az u (sym (ap (Near z) e) ∙ near_x) h))
        (λ q. not-both z az u (near-near u q) h)

    beyond-less : count n (Beyond z) < count n (Beyond x)
    beyond-less =
        let one = count-without n (Beyond x) z (m z (without_in R x z (beyond_in x ax z zx))) zx in
        let rest = count-le n (Beyond z) (without (Beyond x) z) (λ u l h.
        in_without (Beyond x) (beyond-beyond u h) (without-ne R z u (beyond_in z az u h))) in
        omega arith

  -- of the cut nodes other than a, one with the fewest nodes beyond it has no cut node beyond it
  least-part : (x : ℕ) → without R x a ≡ true → R x ≡ true → cut n edge R x ≡ true → UncutPart n edge R
  least-part x ax rx cx =
      let cuts : ℕ → Bool = λ v. without R v a & R v & cut n edge R v in
      let s = smallest n cuts (λ v. count n (Beyond v)) (record { at = x; low = m x rx; fact = both ax (both rx cx) }) in
      let c = s.at in
      let ac = and_l _ _ s.fact in
      let rc = and_l _ _ (and_r _ _ s.fact) in
      record {
        c = c;
        H = Beyond c;
        part = beyond-part c ac rc (cut-beyond c ac (and_r _ _ (and_r _ _ s.fact)));
        uncut = λ z h. refute _ (λ t.
            let rz = without_in R c z (beyond_in c ac z h) in
            let az = in_without R (without_in R c a ac) (λ e. not-both c ac z (ap (Near c) e ∙ near-start c ac) h) in
            let less = beyond-less c ac rc z az h in
            let least = s.bound z (m z rz) (both az (both rz t)) in
            omega arith);
      }

module _ (n : ℕ) (edge : ℕ → ℕ → Bool) (net : Network n edge) (R : ℕ → Bool) (m : Members n R) (conn : Connected edge R) where
  pub uncut-part : Some n R → UncutPart n edge R
  uncut-part s = ⊎_elim cut-node no-cut-node (find n (λ x. R x & cut n edge R x))
    where
      cut-node : Some n (λ x. R x & cut n edge R x) → UncutPart n edge R
      cut-node s =
          let x = s.at in
          let h = and_r _ _ s.fact in
          ⊎_elim (λ a. least-part n edge net R m conn a.at x a.fact (and_l _ _ s.fact) h)
          (λ none. absurd ((cut-iff n edge net R m x).0 h (λ u w hu hw. no_tf hu (none u (m u (without_in R x u hu))))))
          (find n (without R x))

      -- all of R is a part, and n, which is no node, serves as the node that borders on it
      no-cut-node : ((v : ℕ) → v < n → R v & cut n edge R v ≡ false) → UncutPart n edge R
      no-cut-node none = record {
        c = n;
        H = R;
        part = record {
          some = s;
          member = λ u h. h;
          closed = λ u w h r e d. r;
          border = λ u h e. let l = net.inside u n (net.undirected n u e) in absurd (omega arith);
        };
        uncut = λ u h. refute _ (λ t. no_tf (both h t) (none u (m u h)));
      }
