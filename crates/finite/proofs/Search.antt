-- What the searches find: a witness or a refutation, lowest number first.
use mathlib.Core.Path.{◌≡◌, refl, sym, ◌∙◌, ap}
use mathlib.Core.Bool.{Bool, true, false}
use mathlib.Core.Logic.{◌⊎◌, inl, inr, ⊎_elim}
use Prim.Native.Nat.{ℕ, zero, suc, ◌≤◌, ◌<◌, zero-le}
use native.Mathlib.Nat.{le_refl, le_step, lt-suc_self, not-suc-le-zero}
use native.Mathlib.Omega.{arith}
use Rattle.finite.specs.Truth.{◌&◌, ◌or◌, same, below}
use Rattle.finite.specs.Sum.{count}
use Rattle.finite.specs.Search.{Some, any, all, least, least_value, lowest_at, least_by, LeastBy}
use Rattle.finite.proofs.Truth.{no_tf, bcase, iff, refute, both, and_l, and_r, false_and, or_l, or_r, or_case, same-eq, same-ne, same_refl, eq-same, below-lt, below-le, lt-below}
use Rattle.finite.proofs.Sum.{count_none}

-- a number below n that passes p, or the fact that none does
pub find : (n : ℕ) (p : ℕ → Bool) → Some n p ⊎ ((v : ℕ) → v < n → p v ≡ false)
find zero p = inr (λ v l. absurd (not-suc-le-zero l))
find (suc n) p = go (find n p)
  where
    go : Some n p ⊎ ((v : ℕ) → v < n → p v ≡ false) → Some (suc n) p ⊎ ((v : ℕ) → v < suc n → p v ≡ false)
    go (inl s) = inl (record { at = s.at; low = le_step s.low; fact = s.fact })
    go (inr h) =
        bcase (p n) (λ t. inl (record { at = n; low = lt-suc_self n; fact = t }))
        (λ f. inr (λ v l. bcase (same v n) (λ e. ap p (same-eq v n e) ∙ f) (λ e. let m = same-ne v n e in h v (omega arith))))

pub count-some : (n : ℕ) (p : ℕ → Bool) → 0 < count n p → Some n p
count-some n p h = ⊎_elim (λ s. s) (λ none. let z = count_none n p none in absurd (omega arith)) (find n p)

pub any-more : (n : ℕ) (p : ℕ → Bool) → any (suc n) p ≡ p n or any n p
unfolding any ◌or◌
any-more n p = bcase (p n) (λ t. rw (t, any)) (λ t. rw (t, any))

pub some-any : (n : ℕ) (p : ℕ → Bool) (v : ℕ) → v < n → p v ≡ true → any n p ≡ true
some-any zero p v l h = absurd (not-suc-le-zero l)
some-any (suc n) p v l h =
    any-more n p
    ∙ bcase (same v n) (λ e. or_l _ (sym (ap p (same-eq v n e)) ∙ h))
    (λ e. let m = same-ne v n e in or_r _ (some-any n p v (omega arith) h))

pub any_some : (n : ℕ) (p : ℕ → Bool) → any n p ≡ true → Some n p
unfolding any
any_some zero p h = no_tf h refl
any_some (suc n) p h =
    or_case _ _ (sym (any-more n p) ∙ h) (λ t. record { at = n; low = lt-suc_self n; fact = t })
    (λ t. let s = any_some n p t in record { at = s.at; low = le_step s.low; fact = s.fact })

pub any_cong : (n : ℕ) (p q : ℕ → Bool) → ((v : ℕ) → v < n → p v ≡ q v) → any n p ≡ any n q
any_cong n p q h =
    iff _ _ (λ t. let s = any_some n p t in some-any n q s.at s.low (sym (h s.at s.low) ∙ s.fact))
    (λ t. let s = any_some n q t in some-any n p s.at s.low (h s.at s.low ∙ s.fact))

pub all_more : (n : ℕ) (p : ℕ → Bool) → all (suc n) p ≡ p n & all n p
unfolding all ◌&◌
all_more n p = bcase (p n) (λ t. rw (t, all)) (λ t. rw (t, all))

pub every_all : (n : ℕ) (p : ℕ → Bool) → ((v : ℕ) → v < n → p v ≡ true) → all n p ≡ true
unfolding all
every_all zero p h = refl
every_all (suc n) p h = all_more n p ∙ both (h n (lt-suc_self n)) (every_all n p (λ v l. h v (le_step l)))

pub all_every : (n : ℕ) (p : ℕ → Bool) → all n p ≡ true → (v : ℕ) → v < n → p v ≡ true
all_every zero p h v l = absurd (not-suc-le-zero l)
all_every (suc n) p h v l =
    let t = sym (all_more n p) ∙ h in
    bcase (same v n) (λ e. ap p (same-eq v n e) ∙ and_l _ _ t) (λ e. let m = same-ne v n e in all_every n p (and_r _ _ t) v (omega arith))

-- ---- the least number that passes

pub least-here : (n : ℕ) (p : ℕ → Bool) → p 0 ≡ true → least (suc n) p ≡ 0
unfolding least
least-here n p t = rw (t, least)

pub least-there : (n : ℕ) (p : ℕ → Bool) → p 0 ≡ false → least (suc n) p ≡ suc (least n (λ v. p (suc v)))
unfolding least
least-there n p t = rw (t, least)

pub least-le : (n : ℕ) (p : ℕ → Bool) → least n p ≤ n
unfolding least
least-le zero p = zero-le
least-le (suc n) p =
    bcase (p 0) (λ t. let e = least-here n p t in omega arith)
    (λ t. let e = least-there n p t in let i = least-le n (λ v. p (suc v)) in omega arith)

pub least-fact : (n : ℕ) (p : ℕ → Bool) → least n p < n → p (least n p) ≡ true
least-fact zero p l = absurd (not-suc-le-zero l)
least-fact (suc n) p l =
    bcase (p 0) (λ t. ap p (least-here n p t) ∙ t)
    (λ t.
    let e = least-there n p t in
    ap p e ∙ least-fact n (λ v. p (suc v)) (omega arith))

pub least-before : (n : ℕ) (p : ℕ → Bool) (v : ℕ) → v < least n p → p v ≡ false
unfolding least
least-before zero p v l = absurd (not-suc-le-zero l)
least-before (suc n) p v l = bcase (p 0) (λ t. let e = least-here n p t in let z : ⊥ = omega arith in absurd z) (λ t. go v t (least-there n p t) (λ u. least-before n (λ x. p (suc x)) u) l)
  where
    go : (u : ℕ) → p 0 ≡ false → least (suc n) p ≡ suc (least n (λ x. p (suc x)))
        → ((w : ℕ) → w < least n (λ x. p (suc x)) → p (suc w) ≡ false) → u < least (suc n) p → p u ≡ false
    go zero t e i m = t
    go (suc u) t e i m = i u (omega arith)

-- a number that passes bounds the least
pub least-found : (n : ℕ) (p : ℕ → Bool) (v : ℕ) → p v ≡ true → least n p ≤ v
least-found n p v h = bcase (below v (least n p)) (λ t. no_tf h (least-before n p v (below-lt _ _ t))) (λ t. below-le _ _ t)

-- the least number is the one that passes, with none before it that does
pub least_unique : (n : ℕ) (p : ℕ → Bool) (m : ℕ) → m ≤ n → (m < n → p m ≡ true) → ((v : ℕ) → v < m → p v ≡ false) → least n p ≡ m
least_unique n p m l h b =
    bcase (below (least n p) m) (λ t. let k = below-lt _ _ t in no_tf (least-fact n p (omega arith)) (b _ k))
    (λ t.
    let k = below-le _ _ t in
    bcase (below m (least n p))
    (λ s. let j = below-lt _ _ s in let o = least-le n p in no_tf (h (omega arith)) (least-before n p m j))
    (λ s. let j = below-le _ _ s in omega arith))

pub least_cong : (n : ℕ) (p q : ℕ → Bool) → ((v : ℕ) → v < n → p v ≡ q v) → least n p ≡ least n q
least_cong n p q h =
    least_unique n p (least n q) (least-le n q) (λ l. h _ l ∙ least-fact n q l)
    (λ v l. let k = least-le n q in h v (omega arith) ∙ least-before n q v l)

pub any-least : (n : ℕ) (p : ℕ → Bool) → any n p ≡ true → least n p < n
any-least n p h =
    let s = any_some n p h in
    let b = s.low in
    let f = least-found n p s.at s.fact in
    omega arith

-- the least number is below n where some number passes
pub below-least : (n : ℕ) (p : ℕ → Bool) → below (least n p) n ≡ any n p
below-least n p = iff _ _ (λ t. let l = below-lt _ _ t in some-any n p (least n p) l (least-fact n p l)) (λ t. lt-below (any-least n p t))

-- the least of the first n, sought among the first m: what stands past them passes
module _ (n m : ℕ) {p : ℕ → Bool} {v : ℕ} (past : (u : ℕ) → m ≤ u → p u ≡ true) (e : v ≡ least m (λ u. below u n & p u)) where
  before : (u : ℕ) → u < n → u < v → p u ≡ false
  before u k l = refute (p u) (λ t. no_tf (both (lt-below k) t) (least-before m (λ x. below x n & p x) u (omega arith)))

  pub least-found-among : v < n → v ≡ least n p
  least-found-among l =
      sym (least_unique n p v (omega arith)
      (λ k.
      bcase (below v m)
      (λ t. let j = below-lt v m t in ap p e ∙ and_r _ _ (least-fact m (λ x. below x n & p x) (omega arith)))
      (λ t. past v (below-le v m t))) (λ u k. before u (omega arith) k))

  pub least-none-among : n ≤ v → n ≡ least n p
  least-none-among l = sym (least_unique n p n (omega arith) (λ k. absurd (omega arith)) (λ u k. before u k (omega arith)))

-- ---- the number with the least measure

-- a number below n that passes p, and no other that does has a lower measure f
pub record Smallest (n : ℕ) (p : ℕ → Bool) (f : ℕ → ℕ) : Type 0 where
  pub at : ℕ
  pub low : at < n
  pub fact : p at ≡ true
  pub bound : (v : ℕ) → v < n → p v ≡ true → f at ≤ f v

pub smallest : (n : ℕ) (p : ℕ → Bool) (f : ℕ → ℕ) → Some n p → Smallest n p f
smallest n p f s = go (suc (f s.at)) s (lt-suc_self _)
  where
    go : (k : ℕ) (s : Some n p) → f s.at < k → Smallest n p f
    go zero s l = absurd (not-suc-le-zero l)
    go (suc k) s l =
        ⊎_elim
        (λ t.
        let less = below-lt _ _ (and_r _ _ t.fact) in
        go k (record { at = t.at; low = t.low; fact = and_l _ _ t.fact }) (omega arith))
        (λ none. record {
          at = s.at;
          low = s.low;
          fact = s.fact;
          bound = λ v b h. bcase (below (f v) (f s.at)) (λ t. no_tf (both h t) (none v b)) (below-le _ _);
        })
        (find n (λ v. p v & below (f v) (f s.at)))

-- ---- the least number by a value

module _ (n : ℕ) (f : ℕ → ℕ) (p : ℕ → Bool) where
  abbrev at_value : ℕ → ℕ → Bool
  at_value x v = same (f v) x & p v

  pub least_by-least : (b : ℕ) → ((v : ℕ) → v < n → f v < b) → Some n p → LeastBy n f p (least_by b n f p)
  unfolding least_by lowest_at least_value
  least_by-least b low s =
      let X : ℕ = least b (λ x. any n (at_value x)) in
      let bound : (u : ℕ) → u < n → p u ≡ true → X ≤ f u = λ u l h. least-found b (λ x. any n (at_value x)) (f u) (some-any n (at_value _) u l (both (same_refl _) h)) in
      let x = bound s.at s.low s.fact in
      let y = low s.at s.low in
      let w = any_some n (at_value X) (least-fact b (λ x. any n (at_value x)) (omega arith)) in
      let k = least-found n (at_value X) w.at w.fact in
      let j = w.low in
      let l : least n (at_value X) < n = omega arith in
      let h = least-fact n (at_value X) l in
      let e : f (least n (at_value X)) ≡ X = same-eq _ _ (and_l _ _ h) in
      record {
        low = l;
        fact = and_r _ _ h;
        first = λ u i q.
            let g = bound u i q in
            bcase (below X (f u)) (λ t. let z = below-lt _ _ t in inl (omega arith))
            (λ t.
            let z = below-le _ _ t in
            let r : X ≡ f u = omega arith in
            inr (e ∙ r, least-found n (at_value X) u (both (eq-same (sym r)) q)));
      }

  pub least_by-none : (b : ℕ) → ((v : ℕ) → v < n → p v ≡ false) → least_by b n f p ≡ n
  unfolding least_by lowest_at
  least_by-none b h = least_unique n (at_value _) n (le_refl n) (λ l. absurd (omega arith)) (λ v l. refute _ (λ t. no_tf (and_r _ _ t) (h v l)))

  pub least_by-le : (b : ℕ) → least_by b n f p ≤ n
  unfolding least_by lowest_at
  least_by-le b = least-le n (at_value _)

  pub least-by_unique : (u v : ℕ) → LeastBy n f p u → LeastBy n f p v → u ≡ v
  least-by_unique u v x y =
      ⊎_elim (λ l. ⊎_elim (λ k. absurd (omega arith)) (λ k. let e = k.0 in absurd (omega arith)) (y.first u x.low x.fact))
      (λ l.
      let e = l.0 in
      let i = l.1 in
      ⊎_elim (λ k. absurd (omega arith)) (λ k. let j = k.1 in omega arith) (y.first u x.low x.fact))
      (x.first v y.low y.fact)

-- the test, and the values where it passes, are all that counts
pub least_by_cong : (b n : ℕ) (f g : ℕ → ℕ) (p q : ℕ → Bool) → ((v : ℕ) → v < n → p v ≡ q v) → ((v : ℕ) → v < n → p v ≡ true → f v ≡ g v)
    → least_by b n f p ≡ least_by b n g q
unfolding least_by lowest_at least_value
least_by_cong b n f g p q h e =
    least_cong n _ _ (λ v l. agree _ v l ∙ ap (λ (x : ℕ). same (g v) x & q v) (least_cong b _ _ (λ x k. any_cong n _ _ (λ u j. agree x u j))))
  where
    agree : (x v : ℕ) → v < n → same (f v) x & p v ≡ same (g v) x & q v
    agree x v l =
        bcase (p v) (λ t. ap (λ (y : ℕ). same y x & p v) (e v l t) ∙ ap (λ (c : Bool). same (g v) x & c) (h v l))
        (λ t. ap (λ (c : Bool). same (f v) x & c) t ∙ false_and _ ∙ sym (ap (λ (c : Bool). same (g v) x & c) (sym (h v l) ∙ t) ∙ false_and _))
