-- A line of numbers is read back, so a text is such a line exactly when it is what its numbers print.
use mathlib.Core.Path.{◌≡◌, refl, sym, ◌∙◌, ap, ap₂}
use mathlib.Core.Bool.{true, false}
use mathlib.Core.List.{List, [], ◌∷◌, ◌++◌, append_assoc, append-nil}
use mathlib.Core.Logic.{◌↔◌}
use Prim.Native.Nat.{ℕ, zero, suc, ◌<◌}
use native.Mathlib.Numerals.{add-one}
use native.Mathlib.Omega.{arith}
use lib.ListN.{length, length-append}
use lib.Seq.{drop-append-add}
use Rattle.finite.specs.Truth.{◌&◌, below}
use Rattle.finite.proofs.Truth.{both, and_l, and_r, below-lt, lt-below}
use Rattle.finite.proofs.Lists.{alike-eq, eq-alike}
use Rattle.text.specs.Text.{decimal_of, is_digit}
use Rattle.text.proofs.Reading.{number_in_decimal}
use Rattle.lines.specs.Lines.{fields_of}
use Rattle.read_lines.specs.Numbers.{are_bytes, numbers_line, numbers_in, is_line, IsLine}

-- two numbers are bytes
pub bytes-two-iff : (m n : ℕ) → (are_bytes (m ∷ n ∷ []) ≡ true) ↔ ((m < 256) × (n < 256))
unfolding are_bytes
bytes-two-iff m n = (
  λ b. (below-lt _ _ (and_l _ _ b), below-lt _ _ (and_l _ _ (and_r _ _ b))),
  λ (p, q). both (lt-below p) (both (lt-below q) refl),
)

-- a line is not empty
pub line-some : (ns : List ℕ) → 0 < length (numbers_line ns)
line-some [] = omega arith
line-some (n ∷ ns) = simp length-append (omega arith)

pub numbers-length : (k : ℕ) (s : List ℕ) → length (numbers_in k s) ≡ k
unfolding numbers_in
numbers-length zero s = refl
numbers-length (suc k) s = ap suc (numbers-length k _)

-- a number in front of a byte that is no digit is read, and the byte is passed
number-back : (k n x : ℕ) (t : List ℕ) → below n 256 ≡ true → is_digit x ≡ false → numbers_in (suc k) (decimal_of n ++ x ∷ t) ≡ n ∷ numbers_in k t
unfolding numbers_in
number-back k n x t b d =
    let l = below-lt _ _ b in
    rw (number_in_decimal n x t (omega arith) d, ← add-one, drop-append-add)

-- neither a space nor a line feed is a digit
no_digits : (is_digit 32 ≡ false) × (is_digit 10 ≡ false)
unfolding is_digit ◌&◌ below
no_digits = (refl, refl)

further_back : (n : ℕ) (ns t : List ℕ) → are_bytes (n ∷ ns) ≡ true → numbers_in (suc (length ns)) (decimal_of n ++ (fields_of ns ++ 10 ∷ t)) ≡ n ∷ ns
unfolding are_bytes fields_of numbers_in
further_back n [] t b = number-back 0 n 10 t (and_l _ _ b) no_digits.1
further_back n (m ∷ ns) t b =
    rw (append_assoc (decimal_of m) (fields_of ns))
    (number-back (suc (length ns)) n 32 _ (and_l _ _ b) no_digits.0 ∙ ap (n ∷◌) (further_back m ns t (and_r _ _ b)))

pub numbers-back : (ns t : List ℕ) → are_bytes ns ≡ true → numbers_in (length ns) (numbers_line ns ++ t) ≡ ns
unfolding numbers_in
numbers-back [] t b = refl
numbers-back (n ∷ ns) t b = simp append_assoc (further_back n ns t b)

-- the same of the line alone
pub line-numbers : (ns : List ℕ) → are_bytes ns ≡ true → numbers_in (length ns) (numbers_line ns) ≡ ns
line-numbers ns b = ap (numbers_in (length ns)) (sym (append-nil _)) ∙ numbers-back ns [] b

pub line-fine : (ns : List ℕ) → are_bytes ns ≡ true → is_line (length ns) (numbers_line ns) ≡ true
unfolding is_line
line-fine ns b = rw (line-numbers ns b) (both b (eq-alike refl))

pub line-bytes : (k : ℕ) (l : List ℕ) → is_line k l ≡ true → are_bytes (numbers_in k l) ≡ true
unfolding is_line
line-bytes k l h = and_l _ _ h

pub line_same : (k : ℕ) (l : List ℕ) → is_line k l ≡ true → l ≡ numbers_line (numbers_in k l)
unfolding is_line
line_same k l h = alike-eq _ _ (and_r _ _ h)

pub is-line-iff : (k : ℕ) (l : List ℕ) → (is_line k l ≡ true) ↔ IsLine k l
is-line-iff k l =
    (λ h. (numbers_in k l, numbers-length k l, line-bytes k l h, line_same k l h), λ (ns, n, b, e). ap₂ is_line (sym n) e ∙ line-fine ns b)
