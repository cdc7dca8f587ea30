-- A number in decimal: how many digits it takes, that these are digits, and that no zero stands in front.
use mathlib.Core.Path.{◌≡◌, refl, sym, ◌∙◌, ap, subst}
use mathlib.Core.List.{List, [], ◌∷◌, ◌++◌}
use Prim.Native.Nat.{ℕ, zero, suc, ◌+◌, ◌-◌, ◌/◌, ◌%◌, ◌^◌, ◌≤◌, ◌<◌, suc-le-suc}
use native.Mathlib.Nat.{le_trans, pow-le-pow_right}
use native.Mathlib.Numerals.{add-one}
use native.Mathlib.Omega.{arith}
use lib.ListN.{length, get_or, length-append, get_or-append}
use borrow.Author.Tests.{lt-ltb}
use Rattle.finite.specs.Truth.{below}
use Rattle.finite.proofs.Truth.{bcase, below-lt, below-le, lt-below, le_below}
use Rattle.finite.specs.Search.{least}
use Rattle.finite.proofs.Search.{least_unique, least-le, least-found, least-fact, least-before}
use Rattle.io.specs.Digits.{IsDigitCount, last_digits, hex_digit_ascii}
use Rattle.text.specs.Text.{places, decimal_of}

-- a number of 64 bits has at most 20 digits
few : (n k : ℕ) → n < 2 ^ 64 → IsDigitCount 10 1 n (suc k) → k < 20
few n k h f =
    bcase (below k 20) (λ t. below-lt _ _ t)
    (λ t.
    let l = below-le _ _ t in
    let e : suc k - 1 ≡ k = omega arith in
    let a : 10 ^ 20 ≤ 10 ^ k = pow-le-pow_right {n = 10} (omega arith) l in
    let b : 10 ^ k ≤ n = subst (λ (x : ℕ). 10 ^ x ≤ n) e (f.2 (omega arith)) in
    absurd (omega arith))

pub fewest-places : (n k : ℕ) → n < 2 ^ 64 → IsDigitCount 10 1 n k → k ≡ places n
unfolding places
fewest-places n zero b f = absurd (let h = f.0 in omega arith)
fewest-places n (suc k) b f =
    let l = few n k b f in
    ap suc (sym (least_unique 20 (λ j. below n (10 ^ suc j)) k (omega arith) (λ h. lt-below f.1) (λ j h. le_below (lower j h))))
  where
    e : suc k - 1 ≡ k
    e = omega arith

    lower : (j : ℕ) → j < k → 10 ^ suc j ≤ n
    lower j h = le_trans (pow-le-pow_right {n = 10} (omega arith) h) (subst (λ (x : ℕ). 10 ^ x ≤ n) e (f.2 (omega arith)))

-- ---- how long a number is in decimal

digits_length : (k n : ℕ) → length (last_digits 10 k n) ≡ k
digits_length zero n = refl
digits_length (suc k) n =
    length-append (last_digits 10 k (n / 10)) (hex_digit_ascii (n % 10) ∷ []) ∙ ap (λ (x : ℕ). x + 1) (digits_length k (n / 10)) ∙ add-one k

-- a number below 10 ^ (k + 1) takes at most k + 1 digits, and none takes more than 21
pub decimal-short : (n k : ℕ) → n < 10 ^ suc k → length (decimal_of n) ≤ suc k
unfolding decimal_of places
decimal-short n k h = rw (digits_length (places n) n) (suc-le-suc (least-found 20 (λ j. below n (10 ^ suc j)) k (lt-below h)))

pub decimal-bound : (n : ℕ) → length (decimal_of n) ≤ 21
unfolding decimal_of places
decimal-bound n = rw (digits_length (places n) n) (suc-le-suc (least-le 20 (λ j. below n (10 ^ suc j))))

-- ---- its digits

-- a number below 10 ^ (k + 1) is held by as many digits as it takes
pub places_hold : (n k : ℕ) → n < 10 ^ suc k → k < 20 → n < 10 ^ places n
unfolding places
places_hold n k h few =
    let l = least-found 20 (λ j. below n (10 ^ suc j)) k (lt-below h) in
    below-lt _ _ (least-fact 20 (λ j. below n (10 ^ suc j)) (omega arith))

-- the last digit of a number
pub glyph_is : (n : ℕ) → hex_digit_ascii (n % 10) ≡ 48 + n % 10
glyph_is n = simp (lt-ltb (n % 10) 10 (omega arith))

-- what holds of nothing, and with a digit more behind what it holds of, holds of every number in decimal
pub decimal-made : (P : List ℕ → Type 0) → P [] → ((s : List ℕ) (x : ℕ) → P s → 48 ≤ x → x < 58 → P (s ++ (x ∷ []))) → (n : ℕ) → P (decimal_of n)
unfolding decimal_of
decimal-made P none more n = go (places n) n
  where
    go : (k m : ℕ) → P (last_digits 10 k m)
    go zero m = none
    go (suc k) m = let e = glyph_is m in more _ _ (go k (m / 10)) (omega arith) (omega arith)

-- RULES 6.5: "0 is `0`"
pub decimal-zero : decimal_of 0 ≡ 48 ∷ []
unfolding decimal_of places least below
decimal-zero = refl

-- the first of k + 1 digits of a number that needs them all is not `0`
first-digit : (k n : ℕ) → 10 ^ k ≤ n → n < 10 ^ suc k → get_or (last_digits 10 (suc k) n) 0 0 ≡ 48 → ⊥
first-digit zero n l h e = let g = glyph_is n in omega arith
first-digit (suc k) n l h e =
    let size = digits_length (suc k) (n / 10) in
    first-digit k (n / 10) (omega arith) (omega arith) (sym (get_or-append (last_digits 10 (suc k) (n / 10)) (hex_digit_ascii (n % 10) ∷ []) 0 0 (omega arith)) ∙ e)

-- RULES 6.5: "Numbers are decimal without leading zeros"
pub decimal-front : (n : ℕ) → 0 < n → n < 2 ^ 64 → get_or (decimal_of n) 0 0 ≡ 48 → ⊥
unfolding decimal_of places
decimal-front n some h = first-digit (least 20 (λ j. below n (10 ^ suc j))) n (low _ refl) (below-lt _ _ (least-fact 20 (λ j. below n (10 ^ suc j)) few))
  where
    few : least 20 (λ j. below n (10 ^ suc j)) < 20
    few = let l = least-found 20 (λ j. below n (10 ^ suc j)) 19 (lt-below (omega arith)) in omega arith

    low : (k : ℕ) → least 20 (λ j. below n (10 ^ suc j)) ≡ k → 10 ^ k ≤ n
    low zero e = omega arith
    low (suc j) e = below-le _ _ (least-before 20 (λ j. below n (10 ^ suc j)) j (omega arith))
