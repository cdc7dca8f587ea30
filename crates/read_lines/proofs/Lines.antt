-- The lines of a text are where its line feeds cut it; joined they are the text; and a printed line of numbers is a line.
use mathlib.Core.Path.{◌≡◌, refl, ap}
use mathlib.Core.Bool.{Bool, true, false}
use mathlib.Core.List.{List, [], ◌∷◌, ◌++◌, append_assoc}
use mathlib.Core.Logic.{◌↔◌}
use Prim.Native.Nat.{ℕ, zero, suc, zero-le, suc-le-suc}
use native.Mathlib.Nat.{le_of_suc-le-suc}
use native.Mathlib.Omega.{arith}
use lib.ListN.{length}
use Rattle.finite.specs.Truth.{same}
use Rattle.finite.specs.Lists.{joined_up}
use Rattle.finite.proofs.Truth.{bcase, same-eq, same-ne, ne_same}
use Rattle.text.specs.Text.{decimal_of}
use Rattle.text.proofs.Decimal.{decimal-made}
use Rattle.lines.specs.Lines.{fields_of}
use Rattle.read_lines.specs.Lines.{NoFeed, Cut, nothing, not-closed, closed, onto, lines_of}
use Rattle.read_lines.specs.Numbers.{numbers_line}

pub lines_none : lines_of [] ≡ []
unfolding lines_of
lines_none = refl

-- a text that is not empty has a first line
pub lines-some : (x : ℕ) (s : List ℕ) → (l : List ℕ) × (ls : List (List ℕ)) × (lines_of (x ∷ s) ≡ l ∷ ls)
unfolding lines_of onto
lines-some x s = go (same x 10) (lines_of s)
  where
    go : (b : Bool) (r : List (List ℕ)) → (l : List ℕ) × (ls : List (List ℕ)) × (elim b [ true ↦ (x ∷ []) ∷ r | false ↦ onto x r ] ≡ l ∷ ls)
    go true r = (_, _, refl)
    go false [] = (_, _, refl)
    go false (l ∷ ls) = (_, _, refl)

pub lines-joined : (s : List ℕ) → joined_up (lines_of s) ≡ s
unfolding lines_of onto joined_up
lines-joined [] = refl
lines-joined (x ∷ s) = go (same x 10) (lines_of s) (lines-joined s)
  where
    go : (b : Bool) (r : List (List ℕ)) → joined_up r ≡ s → joined_up (elim b [ true ↦ (x ∷ []) ∷ r | false ↦ onto x r ]) ≡ x ∷ s
    go true r e = ap (x ∷◌) e
    go false [] e = ap (x ∷◌) e
    go false (l ∷ ls) e = ap (x ∷◌) e

-- ---- what has no line feed stands in front of the first line

record Clean (x : List ℕ) : Type 0 where
  first : (s : List ℕ) {l : List ℕ} {ls : List (List ℕ)} → lines_of s ≡ l ∷ ls → lines_of (x ++ s) ≡ (x ++ l) ∷ ls

clean_none : Clean []
clean_none = record { first = λ s e. e }

clean_one : (x : ℕ) → (x ≡ 10 → ⊥) → Clean (x ∷ [])
unfolding lines_of onto
clean_one x h = record { first = λ s e. rw (ne_same h, lines_of) (ap (onto x) e) }

clean_append : {a b : List ℕ} → Clean a → Clean b → Clean (a ++ b)
clean_append f g = record { first = λ s e. simp append_assoc (f.first _ (g.first s e)) }

clean_decimal : (n : ℕ) → Clean (decimal_of n)
clean_decimal = decimal-made Clean clean_none (λ d x c low high. clean_append c (clean_one x (λ e. omega arith)))

clean_fields : (ns : List ℕ) → Clean (fields_of ns)
unfolding fields_of
clean_fields [] = clean_none
clean_fields (n ∷ ns) = clean_append (clean_append (clean_one 32 (λ e. omega arith)) (clean_decimal n)) (clean_fields ns)

-- ---- so they are where the line feeds cut the text

clean_feed : (l : List ℕ) → NoFeed l → Clean l
clean_feed [] h = clean_none
clean_feed (x ∷ l) h = clean_append (clean_one x (h 0 (suc-le-suc (zero-le {n = length l})))) (clean_feed l (λ i k. h (suc i) (suc-le-suc k)))

in_front : (x : ℕ) (l : List ℕ) → (x ≡ 10 → ⊥) → NoFeed l → NoFeed (x ∷ l)
in_front x l h f zero k e = h e
in_front x l h f (suc i) k e = f i (le_of_suc-le-suc k) e

cut-onto : (x : ℕ) {s : List ℕ} {ls : List (List ℕ)} → (x ≡ 10 → ⊥) → Cut s ls → Cut (x ∷ s) (onto x ls)
unfolding onto
cut-onto x h nothing = not-closed {l = x ∷ []} (omega arith) (in_front x [] h (λ i k. absurd (omega arith)))
cut-onto x h (not-closed {l} n f) = not-closed {l = x ∷ l} (suc-le-suc (zero-le {n = length l})) (in_front x l h f)
cut-onto x h (closed l f c) = closed (x ∷ l) (in_front x l h f) c

lines_cut : (s : List ℕ) → Cut s (lines_of s)
unfolding lines_of
lines_cut [] = nothing
lines_cut (x ∷ s) =
    bcase (same x 10) (λ t. let e : x ≡ 10 = same-eq _ _ t in rw (t, lines_of, e) (closed [] (λ i k. absurd (omega arith)) (lines_cut s)))
    (λ t. rw (t, lines_of) (cut-onto x (same-ne _ _ t) (lines_cut s)))

not-closed-lines : (x : ℕ) (l : List ℕ) → NoFeed (x ∷ l) → lines_of (x ∷ l) ≡ (x ∷ l) ∷ []
unfolding lines_of onto
not-closed-lines x [] h = rw (ne_same (h 0 (omega arith)), lines_of)
not-closed-lines x (y ∷ l) h =
    rw (ne_same (h 0 (omega arith)), lines_of) (ap (onto x) (not-closed-lines y l (λ i k. h (suc i) (suc-le-suc k))))

cut-lines : {s : List ℕ} {ls : List (List ℕ)} → Cut s ls → lines_of s ≡ ls
unfolding lines_of same
cut-lines nothing = refl
cut-lines (not-closed {l = []} n f) = absurd (omega arith)
cut-lines (not-closed {l = x ∷ l} n f) = not-closed-lines x l f
cut-lines (closed l {t} f c) = (clean_feed l f).first (10 ∷ t) (ap (λ (ls : List (List ℕ)). (10 ∷ []) ∷ ls) (cut-lines c))

-- RULES 6.5: "A line reaches up to its line feed and holds it; what stands behind the last line feed is a line that is not closed."
pub lines-cut-iff : (s : List ℕ) (ls : List (List ℕ)) → (lines_of s ≡ ls) ↔ Cut s ls
lines-cut-iff s ls = (λ e. rw (← e) (lines_cut s), cut-lines)

-- a line of numbers at the front of a text is its first line
pub line_first : (ns t : List ℕ) → lines_of (numbers_line ns ++ t) ≡ numbers_line ns ∷ lines_of t
unfolding lines_of same
line_first [] t = refl
line_first (n ∷ ns) t = rw (append_assoc _ (10 ∷ []) t) ((clean_append (clean_decimal n) (clean_fields ns)).first (10 ∷ t) refl)
