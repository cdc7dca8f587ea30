-- What `one` and `two` lay in their buffers is the line of the numbers that the text begins with.
use mathlib.Core.Path.{◌≡◌, ◌∙◌}
use mathlib.Core.List.{List, [], ◌∷◌}
use Rattle.std.specs.Prelude.{Option}
use Prim.Native.Nat.{ℕ, zero, suc, ◌+◌, ◌*◌, ◌≤◌}
use native.Mathlib.Nat.{not-suc-le-zero, le_of_suc-le-suc, le_refl}
use native.Mathlib.Omega.{arith}
use lib.ListN.{length, take, drop, length-append}
use Rattle.finite.specs.Truth.{◌&◌, below}
use Rattle.laid.specs.Laid.{Page, page, behind}
use Rattle.laid.proofs.Pieces.{lays-at, lays-front, within_none, within_more}
use Rattle.text.specs.Text.{decimal_of, number_in}
use Rattle.text.proofs.Decimal.{decimal-short}
use Rattle.text.proofs.Reading.{number_in_low}
use Rattle.lines.specs.Lines.{with_fields, with_line}
use Rattle.lines.proofs.Whole.{Short, within-line}
use Rattle.read_lines.specs.declared.FirstLine.{FirstLine}
use Rattle.read_lines.specs.Numbers.{numbers_line, are_bytes, numbers_in, begins, found_of, one_in, two_in}
use Rattle.read_lines.proofs.Numbers.{numbers-length}

-- a number that is read has at most three digits
read_short : (s : List ℕ) → length (decimal_of (number_in s)) ≤ 3
read_short s = decimal-short (number_in s) 2 (number_in_low s)

numbers-short : (k : ℕ) (s : List ℕ) → Short 3 (numbers_in k s)
unfolding numbers_in
numbers-short zero s i l = absurd (not-suc-le-zero l)
numbers-short (suc k) s zero l = read_short s
numbers-short (suc k) s (suc i) l = numbers-short k _ i (le_of_suc-le-suc l)

-- the place behind the first number and one byte
abbrev next : List ℕ → ℕ
next s = suc (length (decimal_of (number_in s)))

module _ (s b : List ℕ) where
  next_place : {p q : Page} (x : ℕ) → p ≡ behind (page b 0) (decimal_of (number_in s)) → q ≡ behind p (x ∷ []) → 4 ≤ length b → q.at ≡ next s
  next_place x d e l =
      let h = read_short s in
      let w = within_more (x ∷ []) 1 (within_more (decimal_of (number_in s)) 3 (within_none b) d h (omega arith)) e (le_refl 1) (omega arith) in
      lays-at w.lays ∙ simp length-append (omega arith)

  line_printed : (k : ℕ) {q : Page} → q ≡ with_line (page b 0) (decimal_of (number_in s)) (numbers_in k (drop (next s) s)) → 4 + k * 4 ≤ length b
      → take q.at q.bytes ≡ numbers_line (numbers_in (suc k) s)
  unfolding numbers_in
  line_printed k e l =
      let n = numbers-length k (drop (next s) s) in
      (lays-front (within-line 3 (decimal_of (number_in s)) _ 3 (read_short s) (numbers-short k _) (within_none b) e (omega arith)).lays).0

-- ---- so the answers are what they are to be

module _ (s b : List ℕ) {p q : Page} {m : ℕ} {l : List ℕ} {found : Option FirstLine} (e : m ≡ number_in s) (d : p ≡ behind (page b 0) (decimal_of m)) where
  pub one-is : q ≡ behind p (10 ∷ []) → l ≡ take q.at q.bytes → found ≡ found_of m 0 l s → 4 ≤ length b → found ≡ one_in s
  unfolding one_in numbers_in found_of begins are_bytes below ◌&◌ with_line with_fields
  one-is f g h k =
      let printed : l ≡ numbers_line (numbers_in 1 s) = g ∙ line_printed s b 0 (f ∙ rw (d, e)) k in
      rw (h, printed, e)

  pub two_is : {u v : Page} {t : List ℕ} {n : ℕ} → q ≡ behind p (32 ∷ []) → t ≡ drop q.at s → n ≡ number_in t → u ≡ behind q (decimal_of n) → v ≡ behind u (10 ∷ [])
      → l ≡ take v.at v.bytes → found ≡ found_of m n l s → 8 ≤ length b → found ≡ two_in s
  unfolding two_in numbers_in found_of with_line with_fields
  two_is {n = n} f a r j w g h k =
      let at = next_place s b 32 (d ∙ rw e) f (omega arith) in
      let second : n ≡ number_in (drop (next s) s) = r ∙ rw (a, at) in
      let printed : l ≡ numbers_line (numbers_in 2 s) = g ∙ line_printed s b 1 (w ∙ rw (j, f, d, e, second)) k in
      rw (h, printed, e, second)
