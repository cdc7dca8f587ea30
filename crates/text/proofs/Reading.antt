-- A number below 1,000 that is printed in front of what is no digit is read back, and what is read is below 1,000.
use mathlib.Core.Path.{◌≡◌, refl, sym, ◌∙◌, ap}
use mathlib.Core.Bool.{false}
use mathlib.Core.List.{List, [], ◌∷◌, ◌++◌, append_assoc}
use mathlib.Core.Logic.{◌⊎◌}
use Prim.Native.Nat.{ℕ, zero, suc, ◌+◌, ◌*◌, ◌-◌, ◌/◌, ◌%◌, ◌^◌, ◌≤◌, ◌<◌}
use native.Mathlib.Numerals.{add-one}
use native.Mathlib.Omega.{arith}
use lib.ListN.{length, get_or, drop, drop_of_length-le}
use borrow.Author.Tests.{le-leb}
use Rattle.finite.specs.Truth.{◌&◌, below}
use Rattle.finite.proofs.Truth.{bcase, both, refute, no_tf, and_l, and_r, lt-below, below-lt}
use Rattle.finite.proofs.Decide.{fail, decide_and, decide_below, decide_leb}
use Rattle.finite.proofs.Slices.{drop-next}
use Rattle.io.specs.Digits.{last_digits, hex_digit_ascii}
use Rattle.text.specs.Text.{places, decimal_of, is_digit, read_on, number_in}
use Rattle.text.proofs.Decimal.{glyph_is, places_hold}

-- a digit is read on from n, and nothing else is
read_digit : (n x : ℕ) (s : List ℕ) → n < 100 → 48 ≤ x → x < 58 → read_on n (x ∷ s) ≡ read_on (10 * n + (x - 48)) s
unfolding read_on is_digit
read_digit n x s h a b = rw (both (lt-below h) (both (le-leb _ _ a) (lt-below b)), read_on)

read_stop : (n x : ℕ) (s : List ℕ) → below n 100 & is_digit x ≡ false → read_on n (x ∷ s) ≡ n
unfolding read_on
read_stop n x s h = rw (h, read_on)

read_end : (n x : ℕ) (s : List ℕ) → (100 ≤ n) ⊎ (x < 48) ⊎ (58 ≤ x) → read_on n (x ∷ s) ≡ n
unfolding is_digit
read_end n x s h = read_stop n x s (fail (decide_and (decide_below n 100) (decide_and (decide_leb 48 x) (decide_below x 58))) h)

-- n was read up to place i of a text
pub record DigitsRead (text : List ℕ) (n i : ℕ) : Type 0 where
  pub on : read_on n (drop i text) ≡ number_in text
  pub low : n < 1000

pub digits_none : (text : List ℕ) → DigitsRead text 0 0
digits_none text = record { on = refl; low = omega arith }

module _ {text : List ℕ} {n i : ℕ} (r : DigitsRead text n i) where
  at_place : i < length text → read_on n (get_or text i 0 ∷ drop (i + 1) text) ≡ number_in text
  at_place l = sym (ap (read_on n) (drop-next text i (i + 1) l (add-one i))) ∙ r.on

  pub digits_more : i < length text → n < 100 → 48 ≤ get_or text i 0 → get_or text i 0 < 58 → DigitsRead text (10 * n + (get_or text i 0 - 48)) (i + 1)
  digits_more l h a b = record { on = sym (read_digit n _ _ h a b) ∙ at_place l; low = omega arith }

  pub digits_stopped : i < length text → (100 ≤ n) ⊎ (get_or text i 0 < 48) ⊎ (58 ≤ get_or text i 0) → n ≡ number_in text
  digits_stopped l h = sym (read_end n _ _ h) ∙ at_place l

  pub digits_all : length text ≤ i → n ≡ number_in text
  unfolding read_on
  digits_all l = sym (ap (read_on n) (drop_of_length-le text l)) ∙ r.on

read_digits : (k n : ℕ) (t : List ℕ) → n < 1000 → n < 10 ^ k → read_on 0 (last_digits 10 k n ++ t) ≡ read_on n t
read_digits zero n t l h = let e : 0 ≡ n = omega arith in ap (λ (m : ℕ). read_on m t) e
read_digits (suc k) n t l h =
    let e : 10 * (n / 10) + (48 + n % 10 - 48) ≡ n = omega arith in
    ap (read_on 0) (append_assoc (last_digits 10 k (n / 10)) (hex_digit_ascii (n % 10) ∷ []) t)
    ∙ read_digits k (n / 10) (hex_digit_ascii (n % 10) ∷ t) (omega arith) (omega arith)
    ∙ ap (λ (x : ℕ). read_on (n / 10) (x ∷ t)) (glyph_is n)
    ∙ read_digit (n / 10) (48 + n % 10) t (omega arith) (omega arith) (omega arith)
    ∙ ap (λ (m : ℕ). read_on m t) e

pub number_in_decimal : (n x : ℕ) (t : List ℕ) → n < 1000 → is_digit x ≡ false → number_in (decimal_of n ++ x ∷ t) ≡ n
unfolding decimal_of
number_in_decimal n x t h d =
    read_digits (places n) n (x ∷ t) h (places_hold n 2 h (omega arith)) ∙ read_stop n x t (refute _ (λ e. no_tf (and_r _ _ e) d))

-- what is read is below 1,000
read_low : (n : ℕ) (s : List ℕ) → n < 1000 → read_on n s < 1000
unfolding read_on is_digit
read_low n [] h = h
read_low n (x ∷ s) h =
    bcase (below n 100 & is_digit x)
    (λ t.
    let a = below-lt _ _ (and_l _ _ t) in
    let b = below-lt _ _ (and_r _ _ (and_r _ _ t)) in
    rw (t, read_on) (read_low (10 * n + (x - 48)) s (omega arith)))
    (λ t. rw (read_stop n x s t) h)

pub number_in_low : (s : List ℕ) → number_in s < 1000
number_in_low s = read_low 0 s (omega arith)
