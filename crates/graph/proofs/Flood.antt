-- A flood visits one node of its front at a time: what stays true on the way, that it ends, and that it ends with the nodes reached.
use mathlib.Core.Path.{◌≡◌, sym, ◌∙◌, ap}
use mathlib.Core.Bool.{Bool, true, false}
use Prim.Native.Nat.{ℕ, ◌<◌}
use native.Mathlib.Omega.{arith}
use Rattle.finite.specs.Truth.{◌&◌, ◌or◌, non, same, below}
use Rattle.finite.specs.Sum.{count}
use Rattle.finite.specs.Sets.{has, without}
use Rattle.finite.proofs.Truth.{no_tf, bcase, iff, refute, both, and_l, and_r, or_l, or_r, or_case, non-true, true-non, same-eq, same-ne, below-lt, lt-below}
use Rattle.finite.proofs.Sum.{count-le, count-without}
use Rattle.finite.proofs.Sets.{without_in, without-ne, in_without}
use Rattle.graph.specs.Reach.{reach}
use Rattle.graph.proofs.Reach.{reach-start, reach-closed, reach-least}

-- seen holds the start p and nodes reached from it alone, the front is seen, and the links of what is seen and not in the front lead to what is seen
pub record Flooding (n : ℕ) (edge : ℕ → ℕ → Bool) (p seen front : ℕ → Bool) : Type 0 where
  pub began : (v : ℕ) → v < n → p v ≡ true → seen v ≡ true
  pub sound : (v : ℕ) → v < n → seen v ≡ true → has (reach n edge p) v ≡ true
  pub ahead : (v : ℕ) → v < n → front v ≡ true → seen v ≡ true
  pub done : (u v : ℕ) → u < n → v < n → seen u ≡ true → front u ≡ false → edge u v ≡ true → seen v ≡ true

-- how many nodes are yet to be visited
abbrev pub unvisited : ℕ → (ℕ → Bool) → (ℕ → Bool) → ℕ
unvisited n seen front = count n (λ u. non (seen u & non (front u)))

-- one visit: the neighbours of v that are not seen yet are found, seen, and join the front in the place of v
pub record Visit (n : ℕ) (edge : ℕ → ℕ → Bool) (seen front : ℕ → Bool) (v : ℕ) (seen' front' : ℕ → Bool) : Type 0 where
  pub low : v < n
  pub from : front v ≡ true
  pub found : ℕ → Bool
  pub finds : (u : ℕ) → u < n → found u ≡ edge v u & non (seen u)
  pub sees : (u : ℕ) → u < n → seen' u ≡ seen u or found u
  pub moves : (u : ℕ) → u < n → front' u ≡ without front v u or found u

pub flood_none : (n : ℕ) (edge : ℕ → ℕ → Bool) (p : ℕ → Bool) → Flooding n edge p p p
flood_none n edge p = record {
  began = λ v l h. h;
  sound = λ v l h. reach-start n edge p v l h;
  ahead = λ v l h. h;
  done = λ u v k l h f e. no_tf h f;
}

module _ {n : ℕ} {edge : ℕ → ℕ → Bool} {p seen front : ℕ → Bool} (inv : Flooding n edge p seen front) where
  module _ {v : ℕ} {seen' front' : ℕ → Bool} (at : Visit n edge seen front v seen' front') where
    seen_stays : (u : ℕ) → u < n → seen u ≡ true → seen' u ≡ true
    seen_stays u l h = at.sees u l ∙ or_l _ h

    found_seen : (u : ℕ) → u < n → edge v u ≡ true → seen' u ≡ true
    found_seen u l e = bcase (seen u) (seen_stays u l) (λ f. at.sees u l ∙ or_r _ (at.finds u l ∙ both e (true-non f)))

    found_front : (u : ℕ) → u < n → at.found u ≡ true → front' u ≡ true
    found_front u l h = at.moves u l ∙ or_r _ h

    pub flood_more : Flooding n edge p seen' front'
    flood_more = record {
      began = λ u l h. seen_stays u l (inv.began u l h);
      sound = λ u l h.
          or_case _ _ (sym (at.sees u l) ∙ h) (inv.sound u l) (λ t.
          reach-closed n edge p v u (inv.sound v at.low (inv.ahead v at.low at.from)) (and_l _ _ (sym (at.finds u l) ∙ t)) l);
      ahead = λ u l h.
          or_case _ _ (sym (at.moves u l) ∙ h) (λ t. seen_stays u l (inv.ahead u l (without_in front v u t)))
          (λ t. at.sees u l ∙ or_r _ t);
      done = λ u w k l h f e.
          or_case _ _ (sym (at.sees u k) ∙ h)
          (λ s.
          bcase (same v u) (λ q. found_seen w l (ap (λ (x : ℕ). edge x w) (same-eq v u q) ∙ e))
          (λ q. seen_stays w l (inv.done u w k l s (refute _ (λ t. no_tf (at.moves u k ∙ or_l _ (in_without front t (same-ne v u q))) f)) e)))
          (λ s. no_tf (found_front u k s) f);
    }

    -- a seen node that is not in the front, or is the one visited, counts as visited from now on
    visited : (u : ℕ) → u < n → seen u ≡ true → (front u ≡ true → v ≡ u) → seen' u & non (front' u) ≡ true
    visited u l h f =
        both (seen_stays u l h) (true-non (refute _ (λ t.
        or_case _ _ (sym (at.moves u l) ∙ t) (λ w. without-ne front v u w (f (without_in front v u w)))
        (λ w. no_tf h (non-true _ (and_r _ _ (sym (at.finds u l) ∙ w)))))))

    pub flood_less : unvisited n seen' front' < unvisited n seen front
    flood_less =
        let left : ℕ → Bool = λ u. non (seen u & non (front u)) in
        let here = count-without n left v at.low (true-non (refute _ (λ t. no_tf at.from (non-true _ (and_r _ _ t))))) in
        let rest = count-le n (λ u. non (seen' u & non (front' u))) (without left v) (λ u l h.
        in_without left
        (true-non (refute _ (λ t. no_tf (visited u l (and_l _ _ t) (λ f. no_tf f (non-true _ (and_r _ _ t)))) (non-true _ h))))
        (λ e. no_tf (visited u l (sym (ap seen e) ∙ inv.ahead v at.low at.from) (λ f. e)) (non-true _ h))) in
        omega arith

  -- with nothing left in the front, exactly the nodes reached are seen
  pub flood_all : ((a b : ℕ) → edge a b ≡ true → b < n) → ((v : ℕ) → v < n → front v ≡ false)
      → (v : ℕ) → v < n → seen v ≡ has (reach n edge p) v
  flood_all inside empty v l =
      iff _ _ (inv.sound v l) (λ h.
      and_r _ _ (reach-least n edge inside p (λ x. below x n & seen x) (λ u k t. both (lt-below k) (inv.began u k t))
      (λ a b t e k.
      let low = below-lt _ _ (and_l _ _ t) in
      both (lt-below k) (inv.done a b low k (and_r _ _ t) (empty a low) e)) v h))
