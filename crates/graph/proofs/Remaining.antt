-- The remaining graph held as links of its own: striking out a node gives the next one, and the tests over its links are those of RULES 3.4 and RULES 4.2.
use mathlib.Core.Path.{◌≡◌, refl, ap, fun_ext}
use mathlib.Core.Bool.{Bool, true}
use Prim.Native.Nat.{ℕ, ◌≤◌}
use Rattle.finite.specs.Truth.{◌&◌, non, same}
use Rattle.finite.specs.Sum.{count}
use Rattle.finite.specs.Sets.{without}
use Rattle.finite.proofs.Truth.{iff, both, and_l, and_r}
use Rattle.finite.proofs.Sum.{count_cong, count-bound}
use Rattle.graph.specs.Network.{among, avoid, degree}
use Rattle.graph.specs.Reach.{joined, connected, cut, splits}
use Rattle.graph.proofs.Walk.{among-at}

pub avoid-among : (R : ℕ → Bool) (edge : ℕ → ℕ → Bool) (v : ℕ) → avoid v (among R edge) ≡ among (without R v) edge
unfolding avoid among without
avoid-among R edge v = fun_ext (λ a. fun_ext (λ b. go (R a) (R b) (non (same v a)) (non (same v b)) (edge a b)))
  where
    go : (a b x y e : Bool) → x & y & a & b & e ≡ (a & x) & (b & y) & e
    go a b x y e =
        iff _ _
        (λ h.
        let k = and_r _ _ (and_r _ _ h) in
        both (both (and_l _ _ k) (and_l _ _ h)) (both (both (and_l _ _ (and_r _ _ k)) (and_l _ _ (and_r _ _ h))) (and_r _ _ (and_r _ _ k))))
        (λ h.
        let k = and_r _ _ h in
        both (and_r _ _ (and_l _ _ h)) (both (and_r _ _ (and_l _ _ k)) (both (and_l _ _ (and_l _ _ h)) (both (and_l _ _ (and_l _ _ k)) (and_r _ _ k)))))

pub degree-le : (n : ℕ) (edge : ℕ → ℕ → Bool) (R : ℕ → Bool) (v : ℕ) → degree n edge R v ≤ n
unfolding degree
degree-le n edge R v = count-bound n (λ u. R u & edge v u)

module _ (n : ℕ) (edge : ℕ → ℕ → Bool) (R : ℕ → Bool) where
  pub joined-connected : joined n (among R edge) R ≡ connected n edge R
  unfolding connected
  joined-connected = refl

  pub splits-cut : (v : ℕ) → splits n (among R edge) R v ≡ cut n edge R v
  unfolding splits cut connected
  splits-cut v = ap (λ (e : ℕ → ℕ → Bool). non (joined n e (without R v))) (avoid-among R edge v)

  -- a member's remaining degree is the number of its links in the remaining graph
  pub links-degree : (v : ℕ) → R v ≡ true → count n (among R edge v) ≡ degree n edge R v
  unfolding degree
  links-degree v h = count_cong n (among R edge v) (λ u. R u & edge v u) (λ u l. among-at R edge v u h)
