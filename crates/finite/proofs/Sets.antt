-- Laws of sets written as numbers: membership, extensionality, what the operations on binary digits mean, size and least member.
use mathlib.Core.Path.{◌≡◌, refl, sym, ◌∙◌, ap, ap₂, subst}
use mathlib.Core.Bool.{Bool, true, false}
use mathlib.Core.Logic.{⊎_elim}
use Prim.Native.Nat.{ℕ, zero, suc, ◌+◌, ◌-◌, ◌*◌, ◌/◌, ◌%◌, ◌^◌, min, max, ◌≤◌, ◌<◌, zero-le}
use native.Mathlib.Nat.{not-suc-le-zero, mod-lt, mod-eq_of_lt, mod-one, div-eq_of_lt, one-mul, zero-mul, add_comm, le_dest, pow-suc, div-one, lt_of_lt_of_le}
use native.Mathlib.Numerals.{one-add}
use native.Mathlib.Omega.{arith}
use lib.Bits.{bit_and, bit_or, and_shr, or_shr, and_step, or_step, and_lt, or_lt}
use lib.Count.{ones, ones_cat, count_trailing_zeros, under}
use lib.Dec.{eqb}
use lib.Pow.{pow_pos, pow_mono, mod-pow-add, field, mod-mod-pow, high, low, shr-shr}
use borrow.Author.Tests.{eq-eqb}
use Rattle.finite.specs.Truth.{◌&◌, ◌or◌, non, same, below}
use Rattle.finite.specs.Sum.{sum_to, when, count}
use Rattle.finite.specs.Search.{least}
use Rattle.finite.specs.Sets.{has, set_of, without}
use Rattle.finite.proofs.Truth.{no_tf, bcase, iff, both, and_l, and_r, non-true, true-non, ne_same, same-eq, same-ne, same_refl, below-lt, below-le}
use Rattle.finite.proofs.Sum.{count-le, count-without, sum_cong, sum_more, sum-none, sum-only, sum_split, when_true, when_false}
use Rattle.finite.proofs.Search.{find, least-here, least-there, least_cong}

abbrev bit : ℕ → ℕ → ℕ
bit w v = w / 2 ^ v % 2

bit-when : (w v : ℕ) → bit w v ≡ when (has w v) 1
unfolding has
bit-when w v = go (bit w v) (mod-lt (w / 2 ^ v) (omega arith))
  where
    go : (x : ℕ) → x < 2 → x ≡ when (eqb x 1) 1
    go zero l = refl
    go (suc zero) l = refl
    go (suc (suc x)) l = absurd (omega arith)

-- equal digits, equal membership
has-bit : (a b u v : ℕ) → bit a u ≡ bit b v → has a u ≡ has b v
unfolding has
has-bit a b u v e = ap (λ (x : ℕ). eqb x 1) e

has_one : (w v : ℕ) → bit w v ≡ 1 → has w v ≡ true
unfolding has
has_one w v e = eq-eqb _ _ e

has-zero : (w v : ℕ) → bit w v ≡ 0 → has w v ≡ false
unfolding has
has-zero w v e = ap (λ (x : ℕ). eqb x 1) e

when-mul : (b : Bool) (x : ℕ) → when b 1 * x ≡ when b x
when-mul true x = one-mul x
when-mul false x = zero-mul x

-- the digits of a * 2 ^ k + r below k are those of r, and the next is the lowest of a
digit_low : (a k r v : ℕ) → r < 2 ^ k → v < k → bit (a * 2 ^ k + r) v ≡ bit r v
digit_low a k r v h l =
    let x : ℕ = a * 2 ^ k + r in
    let (j, e) = le_dest l in
    let up : (j + (1 + v)) ≡ k = omega arith in
    let cut : x % 2 ^ (1 + v) ≡ r % 2 ^ (1 + v) = sym (mod-mod-pow x j (1 + v)) ∙ ap (λ (m : ℕ). x % 2 ^ m % 2 ^ (1 + v)) up ∙ ap (λ (m : ℕ). m % 2 ^ (1 + v)) (low a k h) in
    sym (field x 1 v) ∙ ap (λ (m : ℕ). m / 2 ^ v) cut ∙ field r 1 v

digit-top : (a k r : ℕ) → r < 2 ^ k → bit (a * 2 ^ k + r) k ≡ a % 2
digit-top a k r h = ap (λ (m : ℕ). m % 2) (high a k h)

-- past a number's digits it has no members
pub has_out : (w n v : ℕ) → w < 2 ^ n → n ≤ v → has w v ≡ false
has_out w n v h l = has-zero w v (ap (λ (m : ℕ). m % 2) (div-eq_of_lt (lt_of_lt_of_le h (pow_mono l))))

pub has-lt : (n w v : ℕ) → w < 2 ^ n → has w v ≡ true → v < n
has-lt n w v l h = bcase (below v n) (λ t. below-lt v n t) (λ t. no_tf h (has_out w n v l (below-le v n t)))

pub set_of-none : (p : ℕ → Bool) → set_of 0 p ≡ 0
unfolding set_of sum_to
set_of-none p = refl

pub set_of-more : (n : ℕ) (p : ℕ → Bool) → set_of (suc n) p ≡ when (p n) 1 * 2 ^ n + set_of n p
unfolding set_of sum_to
set_of-more n p = let e = when-mul (p n) (2 ^ n) in omega arith

pub set_of-lt : (n : ℕ) (p : ℕ → Bool) → set_of n p < 2 ^ n
set_of-lt zero p = let e = set_of-none p in omega arith
set_of-lt (suc n) p = let e = set_of-more n p in let i = set_of-lt n p in go (p n) e i
  where
    go : (b : Bool) → set_of (suc n) p ≡ when b 1 * 2 ^ n + set_of n p → set_of n p < 2 ^ n → set_of (suc n) p < 2 ^ suc n
    go true e i = let d = pow-suc 2 n in omega arith
    go false e i = let d = pow-suc 2 n in omega arith

-- membership in a set made from a test
pub has-set_of : (n : ℕ) (p : ℕ → Bool) (v : ℕ) → v < n → has (set_of n p) v ≡ p v
has-set_of zero p v l = absurd (not-suc-le-zero l)
has-set_of (suc n) p v l =
    ap (λ (w : ℕ). has w v) (set_of-more n p)
    ∙ bcase (same v n)
    (λ t.
    let e = same-eq v n t in
    let d = digit-top (when (p n) 1) n (set_of n p) (set_of-lt n p) in
    subst (λ (u : ℕ). has (when (p n) 1 * 2 ^ n + set_of n p) u ≡ p u) (sym e) (top (p n) d))
    (λ t.
    let m = same-ne v n t in
    let k : v < n = omega arith in
    has-bit _ _ v v (digit_low (when (p n) 1) n (set_of n p) v (set_of-lt n p) k) ∙ has-set_of n p v k)
  where
    top : (b : Bool) → bit (when b 1 * 2 ^ n + set_of n p) n ≡ when b 1 % 2 → has (when b 1 * 2 ^ n + set_of n p) n ≡ b
    top true d = has_one _ n d
    top false d = has-zero _ n d

pub set_of_out : (n : ℕ) (p : ℕ → Bool) (v : ℕ) → n ≤ v → has (set_of n p) v ≡ false
set_of_out n p v l = has_out (set_of n p) n v (set_of-lt n p) l

pub set_of_cong : (n : ℕ) (p q : ℕ → Bool) → ((v : ℕ) → v < n → p v ≡ q v) → set_of n p ≡ set_of n q
unfolding set_of
set_of_cong n p q h = sum_cong n (λ v. when (p v) (2 ^ v)) (λ v. when (q v) (2 ^ v)) (λ v l. ap (λ (b : Bool). when b (2 ^ v)) (h v l))

-- the members of w below n, as a set, are w's last n digits
pub set_of-mod : (n w : ℕ) → set_of n (has w) ≡ w % 2 ^ n
set_of-mod zero w = set_of-none (has w) ∙ sym (mod-one w)
set_of-mod (suc n) w =
    set_of-more n (has w) ∙ ap₂ (λ (x y : ℕ). x * 2 ^ n + y) (sym (bit-when w n)) (set_of-mod n w) ∙ sym (mod-pow-add w 1 n)
    ∙ ap (λ (x : ℕ). w % 2 ^ x) (one-add n)

-- a number below 2 ^ n is the set of its members
pub set_of-has : (n w : ℕ) → w < 2 ^ n → set_of n (has w) ≡ w
set_of-has n w h = set_of-mod n w ∙ mod-eq_of_lt h

-- extensionality: a number below 2 ^ n whose members are those that pass p is the set of p
pub set_ext : (n w : ℕ) (p : ℕ → Bool) → w < 2 ^ n → ((v : ℕ) → v < n → has w v ≡ p v) → w ≡ set_of n p
set_ext n w p h e = sym (set_of-has n w h) ∙ set_of_cong n (has w) p e

-- ---- the operations on binary digits

has-when : (w v : ℕ) (t : Bool) → bit w v ≡ when t 1 → has w v ≡ t
has-when w v true e = has_one w v e
has-when w v false e = has-zero w v e

pub has_and : (a b v : ℕ) → has (bit_and a b) v ≡ has a v & has b v
unfolding ◌&◌
has_and a b v =
    has-when (bit_and a b) v (has a v & has b v)
    (ap (λ (x : ℕ). x % 2) (and_shr a b v ∙ and_step (a / 2 ^ v) (b / 2 ^ v)) ∙ last (bit_and (a / 2 ^ v / 2) (b / 2 ^ v / 2)) (a / 2 ^ v) (b / 2 ^ v)
    ∙ ap₂ min (bit-when a v) (bit-when b v) ∙ go (has a v) (has b v))
  where
    last : (x y z : ℕ) → (x * 2 + min (y % 2) (z % 2)) % 2 ≡ min (y % 2) (z % 2)
    last x y z = omega arith

    go : (s t : Bool) → min (when s 1) (when t 1) ≡ when (s & t) 1
    go true true = refl
    go true false = refl
    go false true = refl
    go false false = refl

pub has_or : (a b v : ℕ) → has (bit_or a b) v ≡ has a v or has b v
unfolding ◌or◌
has_or a b v =
    has-when (bit_or a b) v (has a v or has b v)
    (ap (λ (x : ℕ). x % 2) (or_shr a b v ∙ or_step (a / 2 ^ v) (b / 2 ^ v)) ∙ last (bit_or (a / 2 ^ v / 2) (b / 2 ^ v / 2)) (a / 2 ^ v) (b / 2 ^ v)
    ∙ ap₂ max (bit-when a v) (bit-when b v) ∙ go (has a v) (has b v))
  where
    last : (x y z : ℕ) → (x * 2 + max (y % 2) (z % 2)) % 2 ≡ max (y % 2) (z % 2)
    last x y z = omega arith

    go : (s t : Bool) → max (when s 1) (when t 1) ≡ when (s or t) 1
    go true true = refl
    go true false = refl
    go false true = refl
    go false false = refl

pub and_set : (n a b : ℕ) → a < 2 ^ n → b < 2 ^ n → bit_and a b ≡ set_of n (λ v. has a v & has b v)
and_set n a b h k = set_ext n (bit_and a b) (λ v. has a v & has b v) (and_lt n a b h k) (λ v l. has_and a b v)

pub or_set : (n a b : ℕ) → a < 2 ^ n → b < 2 ^ n → bit_or a b ≡ set_of n (λ v. has a v or has b v)
or_set n a b h k = set_ext n (bit_or a b) (λ v. has a v or has b v) (or_lt n a b h k) (λ v l. has_or a b v)

-- all ones but the digits of a
pub not_set : (n a : ℕ) → a < 2 ^ n → 2 ^ n - 1 - a ≡ set_of n (λ v. non (has a v))
unfolding set_of ◌&◌
not_set n a h =
    let s = sum_split n (λ v. true) (has a) (λ v. 2 ^ v) in
    let e = set_of-has n a h in
    let o = full n in
    omega arith
  where
    full : (m : ℕ) → sum_to m (λ v. 2 ^ v) + 1 ≡ 2 ^ m
    full zero = ap (λ (x : ℕ). x + 1) (sum-none (λ v. 2 ^ v))
    full (suc m) = let e = sum_more m (λ v. 2 ^ v) in let i = full m in let d = pow-suc 2 m in omega arith

pub one_set : (n v : ℕ) → v < n → 2 ^ v ≡ set_of n (same v)
unfolding set_of
one_set n v l = sym (sum-only n v (λ u. 2 ^ u) l)

-- a set with a member is not 0, and 0 has none
pub has_0 : (v : ℕ) → has 0 v ≡ false
has_0 v = has_out 0 0 v (omega arith) zero-le

pub set-empty : (n w : ℕ) → w < 2 ^ n → ((v : ℕ) → v < n → has w v ≡ false) → w ≡ 0
set-empty n w h e = sym (set_of-has n w h) ∙ set_of_cong n (has w) (has 0) (λ v l. e v l ∙ sym (has_0 v)) ∙ set_of-has n 0 (pow_pos n)

-- ---- size and least member

-- the number of ones is the number of members
pub ones_count : (n w : ℕ) → w < 2 ^ n → ones w ≡ count n (has w)
unfolding ones
ones_count n w h = ap ones (sym (set_of-has n w h)) ∙ go n
  where
    digit : (b : Bool) → ones (when b 1) ≡ when b 1
    digit true = refl
    digit false = refl

    go : (m : ℕ) → ones (set_of m (has w)) ≡ count m (has w)
    go zero = ap ones (set_of-none (has w)) ∙ sym (sum-none (λ v. when (has w v) 1))
    go (suc m) =
        ap ones (set_of-more m (has w)) ∙ ones_cat m (when (has w m) 1) (set_of m (has w)) (set_of-lt m (has w))
        ∙ ap₂ ◌+◌ (digit (has w m)) (go m) ∙ add_comm (when (has w m) 1) (count m (has w)) ∙ sym (sum_more m (λ v. when (has w v) 1))

-- halving a set moves each member one down
has-half : (w v : ℕ) → has (w / 2) v ≡ has w (suc v)
has-half w v = has-bit (w / 2) w v (suc v) (ap (λ (x : ℕ). x % 2) (shr-shr w 1 v ∙ ap (λ (k : ℕ). w / 2 ^ k) (one-add v)))

-- the trailing zeros are the numbers before the least member
pub trailing_least : (n w : ℕ) → count_trailing_zeros n w ≡ least n (has w)
unfolding count_trailing_zeros least
trailing_least zero w = refl
trailing_least (suc n) w =
    let first : bit w 0 ≡ w % 2 = ap (λ (x : ℕ). x % 2) (div-one w) in
    let rest : count_trailing_zeros n (w / 2) ≡ least n (λ v. has w (suc v)) =
    trailing_least n (w / 2) ∙ least_cong n (has (w / 2)) (λ v. has w (suc v)) (λ v l. has-half w v) in
    bcase (has w 0)
    (λ t. ap (λ (d : ℕ). under d (count_trailing_zeros n (w / 2))) (sym first ∙ bit-when w 0 ∙ when_true 1 t) ∙ sym (least-here n (has w) t))
    (λ t.
    ap (λ (d : ℕ). under d (count_trailing_zeros n (w / 2))) (sym first ∙ bit-when w 0 ∙ when_false 1 t) ∙ ap suc rest
    ∙ sym (least-there n (has w) t))

-- ---- a set with one number taken out

pub without_in : (R : ℕ → Bool) (v u : ℕ) → without R v u ≡ true → R u ≡ true
unfolding without
without_in R v u h = and_l _ _ h

pub without-ne : (R : ℕ → Bool) (v u : ℕ) → without R v u ≡ true → v ≡ u → ⊥
unfolding without
without-ne R v u h e = no_tf (ap (same v) (sym e) ∙ same_refl v) (non-true _ (and_r _ _ h))

pub in_without : (R : ℕ → Bool) {v u : ℕ} → R u ≡ true → (v ≡ u → ⊥) → without R v u ≡ true
unfolding without
in_without R h n = both h (true-non (ne_same n))

pub without_other : (R : ℕ → Bool) (v u : ℕ) → R v ≡ false → without R v u ≡ R u
without_other R v u h = iff _ _ (without_in R v u) (λ t. in_without R t (λ e. no_tf t (sym (ap R e) ∙ h)))

-- ---- strict inclusion counts

-- where all that passes p passes q, and v passes q alone, q counts more
pub count-more : (n : ℕ) (p q : ℕ → Bool) (v : ℕ) → ((u : ℕ) → u < n → p u ≡ true → q u ≡ true) → v < n → q v ≡ true → p v ≡ false
    → count n p < count n q
count-more n p q v within l t f =
    let new = count-without n q v l t in
    let old = count-le n p (without q v) (λ u k h. in_without q (within u k h) (λ e. no_tf h (sym (ap p e) ∙ f))) in
    omega arith

-- of two sets that differ, one inside the other, the second has more members
pub set_more : (n s w : ℕ) → s < 2 ^ n → w < 2 ^ n → ((v : ℕ) → v < n → has s v ≡ true → has w v ≡ true) → (w ≡ s → ⊥)
    → count n (has s) < count n (has w)
set_more n s w a b within d =
    ⊎_elim (λ x. count-more n (has s) (has w) x.at within x.low (and_l _ _ x.fact) (non-true _ (and_r _ _ x.fact)))
    (λ none. absurd (d (set_ext n w (has s) b (λ v k.
    iff _ _ (λ t. bcase (has s v) (λ y. y) (λ y. no_tf (both t (true-non y)) (none v k))) (within v k)) ∙ set_of-has n s a)))
    (find n (λ v. has w v & non (has s v)))

-- a member of a set that is made from a test passes it
pub set_of_in : (n : ℕ) (q : ℕ → Bool) {rest : ℕ} → rest ≡ set_of n q → (u : ℕ) → has rest u ≡ true → q u ≡ true
set_of_in n q {rest} r u t = sym (ap (λ (x : ℕ). has x u) r ∙ has-set_of n q u (has-lt n rest u (rw r (set_of-lt n q)) t)) ∙ t
