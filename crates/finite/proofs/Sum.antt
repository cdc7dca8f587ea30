-- Laws of finite sums: agreement and order term by term, addition, factors, one term, exchange of two sums, terms that are 0 from some number on.
use mathlib.Core.Path.{◌≡◌, refl, sym, ◌∙◌, ap, ap₂}
use mathlib.Core.Bool.{Bool, true, false}
use Prim.Native.Nat.{ℕ, zero, suc, ◌+◌, ◌*◌, ◌≤◌, ◌<◌, zero-le}
use native.Mathlib.Nat.{le_refl, le_step, lt-suc_self, le_dest, not-suc-le-zero, add-le-add, add-zero, add-suc, mul-add, mul-zero, mul-one, mul-suc}
use native.Mathlib.Omega.{arith}
use Rattle.finite.specs.Truth.{◌&◌, non, same, below}
use Rattle.finite.specs.Sum.{sum_to, when, sum_if, count}
use Rattle.finite.specs.Sets.{without}
use Rattle.finite.proofs.Truth.{no_tf, bcase, iff, same-eq, same-ne, ne_same, both, and_r, and_true, and_false, below-lt, below-le, lt-below}

pub sum-none : (f : ℕ → ℕ) → sum_to 0 f ≡ 0
unfolding sum_to
sum-none f = refl

pub sum_more : (n : ℕ) (f : ℕ → ℕ) → sum_to (suc n) f ≡ sum_to n f + f n
unfolding sum_to
sum_more n f = refl

pub sum_cong : (n : ℕ) (f g : ℕ → ℕ) → ((v : ℕ) → v < n → f v ≡ g v) → sum_to n f ≡ sum_to n g
unfolding sum_to
sum_cong zero f g h = refl
sum_cong (suc n) f g h = ap₂ ◌+◌ (sum_cong n f g (λ v l. h v (le_step l))) (h n (lt-suc_self n))

pub sum-le : (n : ℕ) (f g : ℕ → ℕ) → ((v : ℕ) → v < n → f v ≤ g v) → sum_to n f ≤ sum_to n g
unfolding sum_to
sum-le zero f g h = zero-le
sum-le (suc n) f g h = add-le-add (sum-le n f g (λ v l. h v (le_step l))) (h n (lt-suc_self n))

pub sum-add : (n : ℕ) (f g : ℕ → ℕ) → sum_to n (λ v. f v + g v) ≡ sum_to n f + sum_to n g
unfolding sum_to
sum-add zero f g = refl
sum-add (suc n) f g = let e = sum-add n f g in omega arith

pub sum-mul : (n k : ℕ) (f : ℕ → ℕ) → sum_to n (λ v. k * f v) ≡ k * sum_to n f
unfolding sum_to
sum-mul zero k f = sym (mul-zero k)
sum-mul (suc n) k f = ap (λ (x : ℕ). x + k * f n) (sum-mul n k f) ∙ sym (mul-add k (sum_to n f) (f n))

pub sum-zero : (n : ℕ) (f : ℕ → ℕ) → ((v : ℕ) → v < n → f v ≡ 0) → sum_to n f ≡ 0
unfolding sum_to
sum-zero zero f h = refl
sum-zero (suc n) f h = ap₂ ◌+◌ (sum-zero n f (λ v l. h v (le_step l))) (h n (lt-suc_self n))

-- the first term apart
pub sum_first : (n : ℕ) (f : ℕ → ℕ) → sum_to (suc n) f ≡ f 0 + sum_to n (λ j. f (suc j))
unfolding sum_to
sum_first zero f = omega arith
sum_first (suc n) f = let e = sum_first n f in omega arith

-- the first x terms apart
pub sum-append : (x y : ℕ) (f : ℕ → ℕ) → sum_to (x + y) f ≡ sum_to x f + sum_to y (λ j. f (x + j))
sum-append x zero f = ap (λ (k : ℕ). sum_to k f) (add-zero x) ∙ (let z = sum-none (λ j. f (x + j)) in omega arith)
sum-append x (suc y) f =
    ap (λ (k : ℕ). sum_to k f) (add-suc x y) ∙ sum_more (x + y) f
    ∙ (let i = sum-append x y f in let s = sum_more y (λ j. f (x + j)) in omega arith)

-- a sum over b k numbers, b at a time
pub sum-blocks : (b k : ℕ) (f : ℕ → ℕ) → sum_to (b * k) f ≡ sum_to k (λ i. sum_to b (λ u. f (b * i + u)))
sum-blocks b zero f = ap (λ (x : ℕ). sum_to x f) (mul-zero b) ∙ sum-none f ∙ sym (sum-none _)
sum-blocks b (suc k) f =
    ap (λ (x : ℕ). sum_to x f) (mul-suc b k) ∙ sum-append (b * k) b f
    ∙ ap (λ (x : ℕ). x + sum_to b (λ u. f (b * k + u))) (sum-blocks b k f) ∙ sym (sum_more k (λ i. sum_to b (λ u. f (b * i + u))))

-- a sum whose terms from m on are 0
pub sum-cut : (m n : ℕ) (f : ℕ → ℕ) → m ≤ n → ((v : ℕ) → m ≤ v → f v ≡ 0) → sum_to n f ≡ sum_to m f
sum-cut m n f l h = let (j, e) = le_dest l in ap (λ (x : ℕ). sum_to x f) (sym e) ∙ go j
  where
    go : (j : ℕ) → sum_to (m + j) f ≡ sum_to m f
    go zero = ap (λ (x : ℕ). sum_to x f) (add-zero m)
    go (suc j) =
        let z = h (m + j) (omega arith) in
        let i = go j in
        ap (λ (x : ℕ). sum_to x f) (add-suc m j) ∙ sum_more (m + j) f ∙ omega arith

-- each term is at most the sum
pub sum_term : (n : ℕ) (f : ℕ → ℕ) (v : ℕ) → v < n → f v ≤ sum_to n f
unfolding sum_to
sum_term zero f v l = omega arith
sum_term (suc n) f v l =
    bcase (same v n) (λ t. let e : f v ≡ f n = ap f (same-eq v n t) in omega arith)
    (λ t. let m = same-ne v n t in let i = sum_term n f v (omega arith) in omega arith)

pub when-le : (b : Bool) (x : ℕ) → when b x ≤ x
when-le true x = le_refl x
when-le false x = zero-le

pub when_true : {b : Bool} (x : ℕ) → b ≡ true → when b x ≡ x
when_true {b = true} x h = refl
when_true {b = false} x h = no_tf h refl

pub when_false : {b : Bool} (x : ℕ) → b ≡ false → when b x ≡ 0
when_false {b = true} x h = no_tf refl h
when_false {b = false} x h = refl

-- a number at which the test fails counts nothing, so two numbers that agree where it passes count alike
pub when_cong : (b : Bool) (x y : ℕ) → (b ≡ true → x ≡ y) → when b x ≡ when b y
when_cong true x y h = h refl
when_cong false x y h = refl

pub when_mono : (b : Bool) (x y : ℕ) → (b ≡ true → x ≤ y) → when b x ≤ when b y
when_mono true x y h = h refl
when_mono false x y h = zero-le

pub when_and : (a b : Bool) (x : ℕ) → when (a & b) x ≡ when a (when b x)
when_and true b x = ap (λ (t : Bool). when t x) (and_true b)
when_and false b x = ap (λ (t : Bool). when t x) (and_false b)

pub when_test : (a b : Bool) (x : ℕ) → (a ≡ true → b ≡ true) → when a x ≤ when b x
when_test true b x h = let e = when_true x (h refl) in omega arith
when_test false b x h = zero-le

-- the sum whose only term stands at v
pub sum-only : (n v : ℕ) (f : ℕ → ℕ) → v < n → sum_to n (λ u. when (same v u) (f u)) ≡ f v
unfolding sum_to
sum-only zero v f l = omega arith
sum-only (suc n) v f l =
    bcase (same v n)
    (λ t.
    let e = same-eq v n t in
    let z : sum_to n (λ u. when (same v u) (f u)) ≡ 0 = sum-zero n (λ u. when (same v u) (f u)) (λ u k. when_false (f u) (ne_same (λ q. omega arith))) in
    let o = when_true (f n) t in
    let x : f v ≡ f n = ap f e in
    omega arith)
    (λ t.
    let m = same-ne v n t in
    let i = sum-only n v f (omega arith) in
    let o = when_false (f n) t in
    omega arith)

-- two sums, one within the other, in either order
pub sum_swap : (n m : ℕ) (f : ℕ → ℕ → ℕ) → sum_to n (λ a. sum_to m (λ b. f a b)) ≡ sum_to m (λ b. sum_to n (λ a. f a b))
unfolding sum_to
sum_swap zero m f = sym (sum-zero m (λ b. 0) (λ b l. refl))
sum_swap (suc n) m f =
    ap (λ (x : ℕ). x + sum_to m (λ b. f n b)) (sum_swap n m f) ∙ sym (sum-add m (λ b. sum_to n (λ a. f a b)) (λ b. f n b))

-- a sum over p parts into those that pass q and those that fail it
pub sum_split : (n : ℕ) (p q : ℕ → Bool) (f : ℕ → ℕ) → sum_if n p f ≡ sum_if n (λ v. p v & q v) f + sum_if n (λ v. p v & non (q v)) f
unfolding ◌&◌ non
sum_split n p q f =
    sum_cong n (λ v. when (p v) (f v)) (λ v. when (p v & q v) (f v) + when (p v & non (q v)) (f v)) (λ v l. go (p v) (q v) (f v))
    ∙ sum-add n (λ v. when (p v & q v) (f v)) (λ v. when (p v & non (q v)) (f v))
  where
    go : (a b : Bool) (x : ℕ) → when a x ≡ when (a & b) x + when (a & non b) x
    go true true x = omega arith
    go true false x = omega arith
    go false b x = refl

-- the sum without one number that passes
pub sum-without : (n : ℕ) (p : ℕ → Bool) (f : ℕ → ℕ) (v : ℕ) → v < n → p v ≡ true
    → sum_if n p f ≡ f v + sum_if n (without p v) f
unfolding without
sum-without n p f v l h =
    let s = sum_split n p (same v) f in
    let o = sum-only n v f l in
    let e = sum_cong n (λ u. when (p u & same v u) (f u)) (λ u. when (same v u) (f u)) (λ u k.
    ap (λ (b : Bool). when b (f u)) (iff _ _ (λ t. and_r _ _ t) (λ t. both (ap p (sym (same-eq v u t)) ∙ h) t))) in
    omega arith

-- sums that agree, one term by term at most the other, agree term by term
pub sum_equal : (n : ℕ) (f g : ℕ → ℕ) → ((v : ℕ) → v < n → f v ≤ g v) → sum_to n g ≤ sum_to n f → (v : ℕ) → v < n → f v ≡ g v
sum_equal zero f g h e v l = absurd (not-suc-le-zero l)
sum_equal (suc n) f g h e v l =
    let a = sum_more n f in
    let b = sum_more n g in
    let last = h n (lt-suc_self n) in
    let rest = sum-le n f g (λ u k. h u (le_step k)) in
    bcase (same v n) (λ t. let q = same-eq v n t in ap f q ∙ go q (omega arith))
    (λ t. let q = same-ne v n t in sum_equal n f g (λ u k. h u (le_step k)) (omega arith) v (omega arith))
  where
    go : v ≡ n → f n ≡ g n → f n ≡ g v
    go q e = e ∙ ap g (sym q)

-- a sum with one more at m
pub sum-one-more : (n m : ℕ) (f : ℕ → ℕ) → m < n → sum_to n (λ v. f v + when (same m v) 1) ≡ suc (sum_to n f)
sum-one-more n m f l = let a = sum-add n f (λ v. when (same m v) 1) in let o = sum-only n m (λ v. 1) l in omega arith

-- a sum of n terms of at most b each
pub sum-within : (n b : ℕ) (f : ℕ → ℕ) → ((v : ℕ) → v < n → f v ≤ b) → sum_to n f ≤ b * n
sum-within zero b f h = let e = sum-none f in omega arith
sum-within (suc n) b f h =
    let i = sum-within n b f (λ v l. h v (le_step l)) in
    let t = h n (lt-suc_self n) in
    let e = sum_more n f in
    let m = mul-suc b n in
    omega arith

-- ---- counts

pub count_cong : (n : ℕ) (p q : ℕ → Bool) → ((v : ℕ) → v < n → p v ≡ q v) → count n p ≡ count n q
count_cong n p q h = sum_cong n (λ v. when (p v) 1) (λ v. when (q v) 1) (λ v l. ap (λ (b : Bool). when b 1) (h v l))

pub count-le : (n : ℕ) (p q : ℕ → Bool) → ((v : ℕ) → v < n → p v ≡ true → q v ≡ true) → count n p ≤ count n q
count-le n p q h = sum-le n (λ v. when (p v) 1) (λ v. when (q v) 1) (λ v l. when_test (p v) (q v) 1 (h v l))

pub count_none : (n : ℕ) (p : ℕ → Bool) → ((v : ℕ) → v < n → p v ≡ false) → count n p ≡ 0
count_none n p h = sum-zero n (λ v. when (p v) 1) (λ v l. when_false 1 (h v l))

-- at most n numbers pass
pub count-bound : (n : ℕ) (p : ℕ → Bool) → count n p ≤ n
unfolding sum_to
count-bound zero p = zero-le
count-bound (suc n) p = let i = count-bound n p in let w = when-le (p n) 1 in omega arith

-- a number that passes is counted
pub count-member : (n : ℕ) (p : ℕ → Bool) (v : ℕ) → v < n → p v ≡ true → 0 < count n p
count-member n p v l h = let t = sum_term n (λ u. when (p u) 1) v l in let o = when_true 1 h in omega arith

-- the count without one number that passes is one less
pub count-without : (n : ℕ) (p : ℕ → Bool) (v : ℕ) → v < n → p v ≡ true → count n p ≡ suc (count n (without p v))
count-without n p v l h = let e = sum-without n p (λ u. 1) v l h in omega arith

-- m of the numbers below n are below m
pub count-below : (n m : ℕ) → m ≤ n → count n (λ v. below v m) ≡ m
unfolding sum_to
count-below zero m l = omega arith
count-below (suc n) m l =
    bcase (below n m)
    (λ t.
    let k = below-lt n m t in
    let e : count n (λ v. below v m) ≡ count n (λ v. below v n) = count_cong n _ _ (λ v h. lt-below {a = v} {b = m} (omega arith) ∙ sym (lt-below h)) in
    let i = count-below n n (le_refl n) in
    let w = when_true 1 t in
    omega arith)
    (λ t. let k = below-le n m t in let i = count-below n m k in let w = when_false 1 t in omega arith)

-- where n of the numbers below n pass, all do
pub count-full : (n : ℕ) (p : ℕ → Bool) → n ≤ count n p → (v : ℕ) → v < n → p v ≡ true
unfolding sum_to
count-full zero p h v l = absurd (not-suc-le-zero l)
count-full (suc n) p h v l =
    let b = count-bound n p in
    bcase (p n)
    (λ t.
    let w = when_true 1 t in
    bcase (same v n) (λ e. ap p (same-eq v n e) ∙ t) (λ e. let m = same-ne v n e in count-full n p (omega arith) v (omega arith)))
    (λ t. let w = when_false 1 t in absurd (omega arith))

-- ---- sums over the numbers that pass a test

-- terms that agree where the test passes
pub sum_if_cong : (n : ℕ) (p : ℕ → Bool) (f g : ℕ → ℕ) → ((v : ℕ) → p v ≡ true → f v ≡ g v) → sum_if n p f ≡ sum_if n p g
sum_if_cong n p f g h = sum_cong n (λ v. when (p v) (f v)) (λ v. when (p v) (g v)) (λ v l. when_cong (p v) (f v) (g v) (h v))

-- k for each number that passes
pub sum_if-same : (n : ℕ) (p : ℕ → Bool) (k : ℕ) → sum_if n p (λ v. k) ≡ k * count n p
sum_if-same n p k = sum_cong n (λ v. when (p v) k) (λ v. k * when (p v) 1) (λ v l. go (p v)) ∙ sum-mul n k (λ v. when (p v) 1)
  where
    go : (b : Bool) → when b k ≡ k * when b 1
    go true = sym (mul-one k)
    go false = sym (mul-zero k)

-- at least k for each number that passes
pub sum_if-bound : (n : ℕ) (p : ℕ → Bool) (f : ℕ → ℕ) (k : ℕ) → ((v : ℕ) → p v ≡ true → k ≤ f v) → k * count n p ≤ sum_if n p f
sum_if-bound n p f k h =
    let e = sum_if-same n p k in
    let l = sum-le n (λ v. when (p v) k) (λ v. when (p v) (f v)) (λ v b. when_mono (p v) k (f v) (h v)) in
    omega arith

-- at most k for each of the n
pub sum_if-within : (n k : ℕ) (p : ℕ → Bool) (f : ℕ → ℕ) → ((v : ℕ) → f v ≤ k) → sum_if n p f ≤ k * n
sum_if-within n k p f h = sum-within n k (λ v. when (p v) (f v)) (λ v l. let w = when-le (p v) (f v) in let b = h v in omega arith)

pub sum_if-add : (n : ℕ) (p : ℕ → Bool) (f g : ℕ → ℕ) → sum_if n p (λ v. f v + g v) ≡ sum_if n p f + sum_if n p g
sum_if-add n p f g =
    sum_cong n (λ v. when (p v) (f v + g v)) (λ v. when (p v) (f v) + when (p v) (g v)) (λ v l. go (p v) (f v) (g v))
    ∙ sum-add n (λ v. when (p v) (f v)) (λ v. when (p v) (g v))
  where
    go : (b : Bool) (x y : ℕ) → when b (x + y) ≡ when b x + when b y
    go true x y = refl
    go false x y = refl

-- a sum over p of terms that q allows is the sum over both
pub sum_if-when : (n : ℕ) (p q : ℕ → Bool) (f : ℕ → ℕ) → sum_if n p (λ v. when (q v) (f v)) ≡ sum_if n (λ v. p v & q v) f
sum_if-when n p q f =
    sum_cong n (λ v. when (p v) (when (q v) (f v))) (λ v. when (p v & q v) (f v)) (λ v l. sym (when_and (p v) (q v) (f v)))

-- what no number from m on passes is summed, and counted, up to m
pub sum_if-cut : (m n : ℕ) (p : ℕ → Bool) (f : ℕ → ℕ) → m ≤ n → ((v : ℕ) → p v ≡ true → v < m) → sum_if n p f ≡ sum_if m p f
sum_if-cut m n p f l h =
    sum-cut m n (λ v. when (p v) (f v)) l (λ v b. when_false (f v) (bcase (p v) (λ t. let i = h v t in absurd (omega arith)) (λ t. t)))

pub count_cut : (m n : ℕ) (p : ℕ → Bool) → m ≤ n → ((v : ℕ) → p v ≡ true → v < m) → count n p ≡ count m p
count_cut m n p l h = sum_if-cut m n p (λ v. 1) l h
