-- Laws of a word of n digits as a set of numbers below n: what the code's operations on words mean, and a word's members, size and lowest member.
-- A node set is such a word, with n = max_nodes. The last laws take a set of the first n numbers to a longer word and back.
use mathlib.Core.Path.{◌≡◌, sym, ◌∙◌, ap}
use mathlib.Core.Bool.{Bool, true, false}
use Prim.Native.Nat.{ℕ, ◌+◌, ◌-◌, ◌*◌, ◌%◌, ◌^◌, ◌≤◌, ◌<◌}
use native.Mathlib.Nat.{one-mul, mod-eq_of_lt, le_of_lt, lt_of_lt_of_le}
use native.Mathlib.Omega.{arith}
use lib.Bits.{bit_and, bit_or}
use lib.Pow.{pow_pos, pow-lt, pow_mono}
use Rattle.finite.specs.Truth.{◌&◌, ◌or◌, non, same, below}
use Rattle.finite.specs.Sum.{count}
use Rattle.finite.specs.Search.{least}
use Rattle.finite.specs.Sets.{has, set_of, without}
use Rattle.finite.proofs.Truth.{bcase, refute, true-non, ne_same, below-lt, below-le, lt-below}
use Rattle.finite.proofs.Sum.{sum-without, count-without, count_cong}
use Rattle.finite.proofs.Search.{least-fact, least-before, least_cong}
use Rattle.finite.proofs.Sets.{has-lt, has_0, has-set_of, set_of_out, set_of-lt, set_of_cong, set_of-has, set_ext, set-empty, and_set, or_set, not_set, one_set, without_other}

-- ---- what the operations on words mean

-- `1 << v` is the set of v alone
pub one_word : (n v : ℕ) → v < n → 1 * 2 ^ v % 2 ^ n ≡ set_of n (same v)
one_word n v l = ap (λ (x : ℕ). x % 2 ^ n) (one-mul (2 ^ v)) ∙ mod-eq_of_lt (pow-lt l) ∙ one_set n v l

-- and 0 is the set of a number past the word's digits
pub one_out : (n v : ℕ) → n ≤ v → 0 ≡ set_of n (same v)
one_out n v l = set_ext n 0 (same v) (pow_pos n) (λ u k. has_0 u ∙ sym (ne_same (λ e. omega arith)))

pub or_set_of : (n w : ℕ) (p : ℕ → Bool) → w < 2 ^ n → bit_or w (set_of n p) ≡ set_of n (λ u. has w u or p u)
or_set_of n w p h =
    or_set n w (set_of n p) h (set_of-lt n p) ∙ set_of_cong n _ _ (λ u l. ap (λ (b : Bool). has w u or b) (has-set_of n p u l))

pub and_set_of : (n w : ℕ) (p : ℕ → Bool) → w < 2 ^ n → bit_and w (set_of n p) ≡ set_of n (λ u. has w u & p u)
and_set_of n w p h =
    and_set n w (set_of n p) h (set_of-lt n p) ∙ set_of_cong n _ _ (λ u l. ap (λ (b : Bool). has w u & b) (has-set_of n p u l))

-- `a & !b`
pub and_not : (n a b : ℕ) → a < 2 ^ n → b < 2 ^ n → bit_and a (2 ^ n - 1 - b) ≡ set_of n (λ u. has a u & non (has b u))
and_not n a b h k = ap (bit_and a) (not_set n b k) ∙ and_set_of n a (λ u. non (has b u)) h

-- `w & !(1 << v)`
pub and_not_one : (n w v : ℕ) {o : ℕ} → w < 2 ^ n → o ≡ set_of n (same v) → bit_and w (2 ^ n - 1 - o) ≡ set_of n (without (has w) v)
unfolding without
and_not_one n w v h e =
    and_not n w _ h (let k = set_of-lt n (same v) in omega arith)
    ∙ set_of_cong n _ _ (λ u l. ap (λ (b : Bool). has w u & non b) (ap (λ (x : ℕ). has x u) e ∙ has-set_of n (same v) u l))

-- ---- members

-- where only numbers below n pass p, the members of the set of p are just those that pass p
pub has_all : (n : ℕ) (p : ℕ → Bool) → ((v : ℕ) → p v ≡ true → v < n) → (v : ℕ) → has (set_of n p) v ≡ p v
has_all n p h v =
    bcase (below v n) (λ l. has-set_of n p v (below-lt _ _ l))
    (λ l. let m = below-le _ _ l in set_of_out n p v m ∙ sym (refute (p v) (λ t. let k = h v t in omega arith)))

-- a word is its member v and the rest
pub member-rest : (n w v : ℕ) → w < 2 ^ n → has w v ≡ true → w ≡ set_of n (same v) + set_of n (without (has w) v)
unfolding set_of
member-rest n w v h t =
    let l = has-lt n w v h t in
    let s = sum-without n (has w) (λ u. 2 ^ u) v l t in
    let o = one_set n v l in
    let e = set_of-has n w h in
    omega arith

-- so without a member it is less, and without what is no member it is the same
pub without-less : (n w v : ℕ) → w < 2 ^ n → has w v ≡ true → set_of n (without (has w) v) < w
without-less n w v h t =
    let o = one_set n v (has-lt n w v h t) in
    let z = pow_pos v in
    let e = member-rest n w v h t in
    omega arith

pub without-none : (n w v : ℕ) → w < 2 ^ n → has w v ≡ false → w ≡ set_of n (without (has w) v)
without-none n w v h f = set_ext n w (without (has w) v) h (λ u l. sym (without_other (has w) v u f))

-- ---- size and lowest member

-- the size and the lowest member of a set made from a test
pub size-set_of : (n : ℕ) (p : ℕ → Bool) → count n (has (set_of n p)) ≡ count n p
size-set_of n p = count_cong n (has (set_of n p)) p (has-set_of n p)

pub lowest-set_of : (n : ℕ) (p : ℕ → Bool) → least n (has (set_of n p)) ≡ least n p
lowest-set_of n p = least_cong n (has (set_of n p)) p (has-set_of n p)

-- the lowest member of a word that is not empty is below n and a member
pub lowest-lt : (n w : ℕ) → w < 2 ^ n → (w ≡ 0 → ⊥) → least n (has w) < n
lowest-lt n w h z =
    bcase (below (least n (has w)) n) (λ l. below-lt _ _ l)
    (λ l.
    let m = below-le _ _ l in
    absurd (z (set-empty n w h (λ v k. least-before n (has w) v (omega arith)))))

pub lowest_in : (n w : ℕ) → w < 2 ^ n → (w ≡ 0 → ⊥) → has w (least n (has w)) ≡ true
lowest_in n w h z = least-fact n (has w) (lowest-lt n w h z)

-- what a loop over members goes by: without its lowest member a word has one less, and what is a set's word is below 2 ^ n
pub rest-fewer : (n : ℕ) {w r : ℕ} → w < 2 ^ n → (w ≡ 0 → ⊥) → r ≡ set_of n (without (has w) (least n (has w))) → count n (has r) < count n (has w)
rest-fewer n {w} {r} h z d =
    let k = count-without n (has w) (least n (has w)) (lowest-lt n w h z) (lowest_in n w h z) in
    let s = ap (λ (x : ℕ). count n (has x)) d ∙ size-set_of n (without (has w) (least n (has w))) in
    omega arith

-- and is a smaller number
pub next-less : (n : ℕ) {w v r : ℕ} → w < 2 ^ n → (w ≡ 0 → ⊥) → v ≡ least n (has w) → r ≡ set_of n (without (has w) v) → r < w
next-less n {w} {v} h z e d =
    let k = without-less n w v h (ap (has w) e ∙ lowest_in n w h z) in
    omega arith

-- the rest of a set is the set without its lowest member, under whichever name the code has that one
pub rest_at : (n w : ℕ) {v r : ℕ} → v ≡ least n (has w) → r ≡ set_of n (without (has w) (least n (has w))) → r ≡ set_of n (without (has w) v)
rest_at n w e d = d ∙ ap (λ (u : ℕ). set_of n (without (has w) u)) (sym e)

pub word_lt : (n : ℕ) (p : ℕ → Bool) {r : ℕ} → r ≡ set_of n p → r < 2 ^ n
word_lt n p e = let k = set_of-lt n p in omega arith

-- ---- where only numbers below n pass p, a word of m digits, no fewer, has the same set

module _ (n m : ℕ) (p : ℕ → Bool) (l : n ≤ m) (h : (v : ℕ) → p v ≡ true → v < n) where
  pub set_of-within : set_of m p ≡ set_of n p
  set_of-within = sym (set_ext m (set_of n p) p (lt_of_lt_of_le (set_of-lt n p) (pow_mono l)) (λ v k. has_all n p h v))

-- ---- the first k of n numbers

-- all ones is the set of all
all-word : (n : ℕ) (p : ℕ → Bool) → ((v : ℕ) → v < n → p v ≡ true) → 2 ^ n - 1 ≡ set_of n p
all-word n p h =
    let e = not_set n 0 (pow_pos n) in
    let s = set_of_cong n (λ v. non (has 0 v)) p (λ v l. true-non (has_0 v) ∙ sym (h v l)) in
    omega arith

-- `(1 << k) - 1` is the set of the first k
pub first_word : (n k : ℕ) → k < n → 1 * 2 ^ k % 2 ^ n - 1 ≡ set_of n (λ v. below v k)
first_word n k l =
    ap (λ (x : ℕ). x - 1) (ap (λ (x : ℕ). x % 2 ^ n) (one-mul (2 ^ k)) ∙ mod-eq_of_lt (pow-lt l))
    ∙ all-word k (λ v. below v k) (λ v h. lt-below h) ∙ sym (set_of-within k n (λ v. below v k) (le_of_lt l) (λ v t. below-lt _ _ t))

-- and `!0` that of all
pub first-all : (n k : ℕ) → n ≤ k → 2 ^ n - 1 ≡ set_of n (λ v. below v k)
first-all n k l = all-word n (λ v. below v k) (λ v h. lt-below (lt_of_lt_of_le h l))
