-- Laws of sets held in several words, for any number of words of any width: members, what an operation on each word does to the set, size, lowest
-- member, the empty set; and the case of one word.
use mathlib.Core.Path.{◌≡◌, refl, sym, ◌∙◌, ap, ap₂}
use mathlib.Core.Bool.{Bool, false}
use mathlib.Core.List.{List, [], ◌∷◌}
use Prim.Native.Nat.{ℕ, zero, suc, ◌+◌, ◌*◌, ◌/◌, ◌%◌, ◌^◌, ◌≤◌, ◌<◌}
use native.Mathlib.Nat.{mod-lt, mod-eq_of_lt, div-eq_of_lt, mul-add-div, mul-add-mod_self_left, div-add-mod, div-lt_iff_lt-mul, mul-suc, mul-one, mul-zero, mul_comm, add-zero, mul-le-mul, le_refl}
use native.Mathlib.Omega.{arith}
use lib.ListN.{get_or}
use Rattle.finite.specs.Truth.{below}
use Rattle.finite.specs.Sum.{sum_to, when, count}
use Rattle.finite.specs.Search.{least}
use Rattle.finite.specs.Sets.{has, set_of}
use Rattle.finite.specs.Words.{member, value}
use Rattle.finite.proofs.Truth.{bcase, below-lt, below-le}
use Rattle.finite.proofs.Sum.{sum-blocks, sum_cong, count_cong}
use Rattle.finite.proofs.Search.{least_unique, least-fact, least-before}
use Rattle.finite.proofs.Sets.{has_0, has_out, has-set_of, set_of_cong, set_of-has, set_of-lt, set-empty}

module _ (b : ℕ) (pos : 0 < b) where
  -- place b i + u is digit u of word i
  pub member-at : (ws : List ℕ) (i u : ℕ) → u < b → member b ws (b * i + u) ≡ has (get_or ws i 0) u
  unfolding member
  member-at ws i u l =
      ap₂ (λ (x y : ℕ). has (get_or ws x 0) y) (mul-add-div pos i u ∙ ap (λ (x : ℕ). i + x) (div-eq_of_lt l) ∙ add-zero i)
      (mul-add-mod_self_left b i u ∙ mod-eq_of_lt l)

  word_low : (k v : ℕ) → v < b * k → v / b < k
  word_low k v l = (div-lt_iff_lt-mul {k = b} {x = v} {y = k} pos).1 (let e = mul_comm b k in omega arith)

  module _ (k : ℕ) where
    pub value-lt : (ws : List ℕ) → value b k ws < 2 ^ (b * k)
    unfolding value
    value-lt ws = set_of-lt (b * k) (member b ws)

    pub has_value : (ws : List ℕ) (v : ℕ) → v < b * k → has (value b k ws) v ≡ member b ws v
    unfolding value
    has_value ws v l = has-set_of (b * k) (member b ws) v l

    -- a set is what the digits of its words say
    pub value-is : (ws : List ℕ) (p : ℕ → Bool) → ((i u : ℕ) → i < k → u < b → has (get_or ws i 0) u ≡ p (b * i + u)) → value b k ws ≡ set_of (b * k) p
    unfolding value member
    value-is ws p h =
        set_of_cong (b * k) _ p (λ v l. h (v / b) (v % b) (word_low k v l) (mod-lt v pos) ∙ ap p (div-add-mod v b))

    -- what f makes of each digit of the words of two sets it makes of the two sets: every Boolean operation at once
    pub value_each : (f : Bool → Bool → Bool) (ws xs ys : List ℕ)
        → ((i u : ℕ) → i < k → u < b → has (get_or ys i 0) u ≡ f (has (get_or ws i 0) u) (has (get_or xs i 0) u))
        → value b k ys ≡ set_of (b * k) (λ v. f (has (value b k ws) v) (has (value b k xs) v))
    unfolding value member
    value_each f ws xs ys h =
        set_of_cong (b * k) _ _ (λ v l.
        h (v / b) (v % b) (word_low k v l) (mod-lt v pos) ∙ ap₂ f (sym (has_value ws v l)) (sym (has_value xs v l)))

    -- the size is the sum of the words' sizes
    pub value-size : (ws : List ℕ) → count (b * k) (has (value b k ws)) ≡ sum_to k (λ i. count b (has (get_or ws i 0)))
    value-size ws =
        count_cong (b * k) _ (member b ws) (has_value ws) ∙ sum-blocks b k (λ v. when (member b ws v) 1)
        ∙ sum_cong k _ _ (λ i l. sum_cong b _ _ (λ u m. ap (λ (t : Bool). when t 1) (member-at ws i u m)))

    -- the lowest member is that of the first word that has one
    pub value-lowest : (ws : List ℕ) (i : ℕ) → i < k → ((j : ℕ) → j < i → (u : ℕ) → u < b → has (get_or ws j 0) u ≡ false) → least b (has (get_or ws i 0)) < b
        → least (b * k) (has (value b k ws)) ≡ b * i + least b (has (get_or ws i 0))
    unfolding member
    value-lowest ws i l none some =
        let x : ℕ = least b (has (get_or ws i 0)) in
        let room = mul-room in
        least_unique (b * k) (has (value b k ws)) (b * i + x) (omega arith)
        (λ q. has_value ws (b * i + x) q ∙ member-at ws i x some ∙ least-fact b (has (get_or ws i 0)) some)
        (λ v q.
        has_value ws v (omega arith)
        ∙ bcase (below (v / b) i) (λ t. none (v / b) (below-lt _ _ t) (v % b) (mod-lt v pos))
        (λ t.
        let a = below-le _ _ t in
        let e = div-add-mod v b in
        let c : v / b ≡ i = word-is v (omega arith) a in
        ap (λ (y : ℕ). has (get_or ws y 0) (v % b)) c
        ∙ least-before b (has (get_or ws i 0)) (v % b) (let d : b * (v / b) ≡ b * i = ap (λ (y : ℕ). b * y) c in omega arith)))
      where
        mul-room : b * i + b ≤ b * k
        mul-room = let e = mul-suc b i in let h = mul-le-mul {n₁ = b} {m₁ = suc i} {n₂ = b} {m₂ = k} (le_refl b) l in omega arith

        word-is : (v : ℕ) → v < b * i + b → i ≤ v / b → v / b ≡ i
        word-is v l a = let c = word_low (suc i) v (let e = mul-suc b i in omega arith) in omega arith

    -- and where no word has one, the set is empty
    pub value_none : (ws : List ℕ) → ((j : ℕ) → j < k → (u : ℕ) → u < b → has (get_or ws j 0) u ≡ false) → value b k ws ≡ 0
    unfolding member
    value_none ws none =
        set-empty (b * k) (value b k ws) (value-lt ws) (λ v l. has_value ws v l ∙ none (v / b) (word_low k v l) (v % b) (mod-lt v pos))

  -- ---- one word

  -- its members are the numbers below b that its digits say, and all that its digits say where it has no more than b
  pub member-low : (w v : ℕ) → v < b → member b (w ∷ []) v ≡ has w v
  unfolding member
  member-low w v l = ap₂ (λ (x y : ℕ). has (get_or (w ∷ []) x 0) y) (div-eq_of_lt l) (mod-eq_of_lt l)

  pub member-word : (w v : ℕ) → w < 2 ^ b → member b (w ∷ []) v ≡ has w v
  unfolding member
  member-word w v h =
      bcase (below v b) (λ t. member-low w v (below-lt _ _ t))
      (λ t.
      let l = below-le _ _ t in
      ap (λ (x : ℕ). has x (v % b)) (behind (v / b) refl l) ∙ has_0 (v % b) ∙ sym (has_out w b v h l))
    where
      behind : (i : ℕ) → v / b ≡ i → b ≤ v → get_or (w ∷ []) i 0 ≡ 0
      behind zero e l =
          let d = div-add-mod v b in
          let m = mod-lt v pos in
          let z : b * (v / b) ≡ 0 = ap (λ (x : ℕ). b * x) e ∙ mul-zero b in
          absurd (omega arith)
      behind (suc i) e l = refl

  -- so it is the set
  pub value-word : (w : ℕ) → w < 2 ^ b → value b 1 (w ∷ []) ≡ w
  unfolding value
  value-word w h =
      ap (λ (n : ℕ). set_of n (member b (w ∷ []))) (mul-one b) ∙ set_of_cong b _ (has w) (member-low w) ∙ set_of-has b w h
