-- The set that grows along links until nothing is added holds exactly the nodes that walks lead to.
use mathlib.Core.Path.{◌≡◌, refl, sym, ◌∙◌, ap}
use mathlib.Core.Bool.{Bool, true}
use Prim.Native.Nat.{ℕ, zero, suc, ◌+◌, ◌^◌, ◌≤◌, ◌<◌}
use native.Mathlib.Omega.{arith}
use lib.Dec.{eqb}
use borrow.Author.Tests.{eq-eqb, ne_eqb, eqb-true, eqb-false}
use Rattle.finite.specs.Truth.{◌&◌, ◌or◌}
use Rattle.finite.specs.Sum.{count}
use Rattle.finite.specs.Sets.{has, set_of}
use Rattle.finite.proofs.Truth.{bcase, both, and_l, and_r, or_l, or_r, or_case}
use Rattle.finite.proofs.Sum.{count-full}
use Rattle.finite.proofs.Search.{some-any, any_some, any_cong}
use Rattle.finite.proofs.Sets.{has-set_of, set_of-lt, has-lt, set_of_cong, set_more}
use Rattle.graph.specs.Network.{Walk, here, From}
use Rattle.graph.specs.Reach.{grow, spread, reach}
use Rattle.graph.proofs.Walk.{walk-append, walk-one, walk-closed}

-- no link leads out of the set p, to a node below n
abbrev pub Closed : ℕ → (ℕ → ℕ → Bool) → (ℕ → Bool) → Type 0
Closed n edge p = (u v : ℕ) → p u ≡ true → edge u v ≡ true → v < n → p v ≡ true

module _ (n : ℕ) (edge : ℕ → ℕ → Bool) where
  grow-keeps : (s v : ℕ) → s < 2 ^ n → has s v ≡ true → has (grow n edge s) v ≡ true
  unfolding grow
  grow-keeps s v l h = has-set_of n _ v (has-lt n s v l h) ∙ or_l _ h

  grow_adds : (s u v : ℕ) → s < 2 ^ n → has s u ≡ true → edge u v ≡ true → v < n → has (grow n edge s) v ≡ true
  unfolding grow
  grow_adds s u v l h e k = has-set_of n _ v k ∙ or_r _ (some-any n (λ x. has s x & edge x v) u (has-lt n s u l h) (both h e))

  grow-lt : (s : ℕ) → grow n edge s < 2 ^ n
  unfolding grow
  grow-lt s = set_of-lt n _

  grow-from : (s v : ℕ) → has (grow n edge s) v ≡ true → From n edge (has s) v
  unfolding grow
  grow-from s v h =
      let k = has-lt n (grow n edge s) v (grow-lt s) h in
      or_case _ _ (sym (has-set_of n _ v k) ∙ h) (λ t. record { start = v; low = k; fact = t; walk = here })
      (λ t. let w = any_some n _ t in record { start = w.at; low = w.low; fact = and_l _ _ w.fact; walk = walk-one (and_r _ _ w.fact) })

  -- what grows has more members
  grow-more : (s : ℕ) → s < 2 ^ n → (grow n edge s ≡ s → ⊥) → count n (has s) < count n (has (grow n edge s))
  grow-more s l d = set_more n s (grow n edge s) l (grow-lt s) (λ v k h. grow-keeps s v l h) d

  spread_stop : (k s : ℕ) → grow n edge s ≡ s → spread (suc k) n edge s ≡ s
  unfolding spread
  spread_stop k s e = rw (eq-eqb _ _ e, spread)

  spread-go : (k s : ℕ) → (grow n edge s ≡ s → ⊥) → spread (suc k) n edge s ≡ spread k n edge (grow n edge s)
  unfolding spread
  spread-go k s d = rw (ne_eqb _ _ d, spread)

  spread_induction : (P : ℕ → ℕ → Type 0) → ((s : ℕ) → P 0 s) → ((k s : ℕ) → grow n edge s ≡ s → P (suc k) s)
      → ((k s : ℕ) → (grow n edge s ≡ s → ⊥) → P k (grow n edge s) → P (suc k) s) → (k s : ℕ) → P k s
  spread_induction P z e g zero s = z s
  spread_induction P z e g (suc k) s =
      bcase (eqb (grow n edge s) s) (λ t. e k s (eqb-true _ _ t)) (λ t. g k s (eqb-false _ _ t) (spread_induction P z e g k (grow n edge s)))

  -- the members of s stay
  spread-keeps : (k s : ℕ) → s < 2 ^ n → (v : ℕ) → has s v ≡ true → has (spread k n edge s) v ≡ true
  unfolding spread
  spread-keeps =
      spread_induction (λ k s. s < 2 ^ n → (v : ℕ) → has s v ≡ true → has (spread k n edge s) v ≡ true) (λ s l v h. h)
      (λ k s e l v h. ap (λ (t : ℕ). has t v) (spread_stop k s e) ∙ h)
      (λ k s d i l v h. ap (λ (t : ℕ). has t v) (spread-go k s d) ∙ i (grow-lt s) v (grow-keeps s v l h))

  spread-from : (k s : ℕ) → s < 2 ^ n → (v : ℕ) → has (spread k n edge s) v ≡ true → From n edge (has s) v
  unfolding spread
  spread-from =
      spread_induction (λ k s. s < 2 ^ n → (v : ℕ) → has (spread k n edge s) v ≡ true → From n edge (has s) v)
      (λ s l v h. record { start = v; low = has-lt n s v l h; fact = h; walk = here })
      (λ k s e l v h.
      let t = sym (ap (λ (t : ℕ). has t v) (spread_stop k s e)) ∙ h in
      record { start = v; low = has-lt n s v l t; fact = t; walk = here })
      (λ k s d i l v h.
      let last = i (grow-lt s) v (sym (ap (λ (t : ℕ). has t v) (spread-go k s d)) ∙ h) in
      let first = grow-from s last.start last.fact in
      record { start = first.start; low = first.low; fact = first.fact; walk = walk-append first.walk last.walk })

  -- with n members nothing is left to add, so n rounds are enough
  spread-closed : (k s : ℕ) → s < 2 ^ n → n ≤ count n (has s) + k → Closed n edge (has (spread k n edge s))
  unfolding spread
  spread-closed =
      spread_induction (λ k s. s < 2 ^ n → n ≤ count n (has s) + k → Closed n edge (has (spread k n edge s)))
      (λ s l f u v h e b. count-full n (has s) (omega arith) v b)
      (λ k s g l f u v h e b.
      let stop = spread_stop k s g in
      ap (λ (t : ℕ). has t v) (stop ∙ sym g) ∙ grow_adds s u v l (sym (ap (λ (t : ℕ). has t u) stop) ∙ h) e b)
      (λ k s d i l f u v h e b.
      let go = spread-go k s d in
      let m = grow-more s l d in
      ap (λ (t : ℕ). has t v) go ∙ i (grow-lt s) (omega arith) u v (sym (ap (λ (t : ℕ). has t u) go) ∙ h) e b)

  -- ---- what `reach` means, for links that lead below n

  pub reach-lt : (p : ℕ → Bool) → reach n edge p < 2 ^ n
  unfolding reach spread
  reach-lt p =
      spread_induction (λ k s. s < 2 ^ n → spread k n edge s < 2 ^ n) (λ s l. l) (λ k s e l. rw (spread_stop k s e) l)
      (λ k s d i l. rw (spread-go k s d) (i (grow-lt s))) n (set_of n p) (set_of-lt n p)

  pub reach-start : (p : ℕ → Bool) (v : ℕ) → v < n → p v ≡ true → has (reach n edge p) v ≡ true
  unfolding reach
  reach-start p v l h = spread-keeps n (set_of n p) (set_of-lt n p) v (has-set_of n p v l ∙ h)

  pub reach-closed : (p : ℕ → Bool) → Closed n edge (has (reach n edge p))
  unfolding reach
  reach-closed p = spread-closed n (set_of n p) (set_of-lt n p) (omega arith)

  -- each node reached is at the end of a walk from a node of p
  pub reach-from : (p : ℕ → Bool) (v : ℕ) → has (reach n edge p) v ≡ true → From n edge p v
  unfolding reach
  reach-from p v h =
      let f = spread-from n (set_of n p) (set_of-lt n p) v h in
      record { start = f.start; low = f.low; fact = sym (has-set_of n p f.start f.low) ∙ f.fact; walk = f.walk }

  module _ (inside : (a b : ℕ) → edge a b ≡ true → b < n) where
    -- a set with p in it that no link leads out of holds all that is reached from p
    pub reach-least : (p q : ℕ → Bool) → ((v : ℕ) → v < n → p v ≡ true → q v ≡ true) → Closed n edge q
        → (v : ℕ) → has (reach n edge p) v ≡ true → q v ≡ true
    reach-least p q s c v h =
        let f = reach-from p v h in
        walk-closed (λ x. q x ≡ true) (λ a b e t. c a b t e (inside a b e)) f.walk (s f.start f.low f.fact)

    -- each node at the end of a walk from a node of p is reached
    pub reach-walk : (p : ℕ → Bool) {u v : ℕ} → u < n → p u ≡ true → Walk edge u v → has (reach n edge p) v ≡ true
    reach-walk p l h w =
        walk-closed (λ x. has (reach n edge p) x ≡ true) (λ a b e t. reach-closed p a b t e (inside a b e)) w (reach-start p _ l h)

-- links that agree between the first n nodes, and starts that agree there, reach the same nodes
module _ (n : ℕ) (edge link : ℕ → ℕ → Bool) (agree : (a b : ℕ) → a < n → b < n → edge a b ≡ link a b) where
  grow_cong : (s : ℕ) → grow n edge s ≡ grow n link s
  unfolding grow
  grow_cong s = set_of_cong n _ _ (λ v l. ap (λ (t : Bool). has s v or t) (any_cong n _ _ (λ u k. ap (λ (t : Bool). has s u & t) (agree u v k l))))

  spread_cong : (k s : ℕ) → spread k n edge s ≡ spread k n link s
  unfolding spread
  spread_cong zero s = refl
  spread_cong (suc k) s =
      bcase (eqb (grow n edge s) s)
      (λ t. let e = eqb-true _ _ t in spread_stop n edge k s e ∙ sym (spread_stop n link k s (sym (grow_cong s) ∙ e)))
      (λ t.
      let d = eqb-false _ _ t in
      spread-go n edge k s d ∙ ap (spread k n edge) (grow_cong s) ∙ spread_cong k (grow n link s)
      ∙ sym (spread-go n link k s (λ e. d (grow_cong s ∙ e))))

  pub reach_cong : (p q : ℕ → Bool) → ((v : ℕ) → v < n → p v ≡ q v) → reach n edge p ≡ reach n link q
  unfolding reach
  reach_cong p q h = spread_cong n (set_of n p) ∙ ap (spread n n link) (set_of_cong n p q h)
