-- An image in order is the one that is written from its bodies.
use mathlib.Core.Path.{◌≡◌, refl, sym, ◌∙◌, ap, ap₂}
use mathlib.Core.Bool.{true}
use mathlib.Core.List.{List, [], ◌∷◌, ◌++◌}
use mathlib.Core.Logic.{◌↔◌}
use Prim.Native.Nat.{ℕ, zero, suc, ◌+◌, ◌*◌, ◌/◌, ◌%◌, ◌≤◌}
use native.Mathlib.Omega.{arith}
use lib.ListN.{length, get_or, take, drop, take-append-drop}
use lib.Seq.{drop-drop, drop-length}
use Rattle.finite.specs.Lists.{joined_up}
use Rattle.finite.proofs.Truth.{both, and_l, and_r}
use Rattle.finite.proofs.Lists.{alike-eq, eq-alike}
use Rattle.finite.proofs.Slices.{drop-next}
use Rattle.format.specs.Contents.{number_at, kind_at, second_at, length_at, begin_of, in_order}
use Rattle.format.specs.Bytes.{AllBytes, entries_of, lengths_of, image_from, body_at, bodies_from, same_bodies}
use Rattle.format.proofs.Contents.{Parts, in_order_parts}
use Rattle.format.proofs.Order.{begin-none, begin-more, parts-fit, parts_body, in_order_size}

pub bodies-length : (b : List ℕ) (i m : ℕ) → length (bodies_from b i m) ≡ m
unfolding bodies_from
bodies-length b i zero = refl
bodies-length b i (suc m) = ap suc (bodies-length b (suc i) m)

-- the test of the bodies passes exactly where they are the image's
pub same-bodies-iff : (b : List ℕ) (i : ℕ) (l : List (List ℕ)) → (same_bodies b i l ≡ true) ↔ (bodies_from b i (length l) ≡ l)
unfolding same_bodies bodies_from
same-bodies-iff b i [] = (λ h. refl, λ e. refl)
same-bodies-iff b i (body ∷ l) = (
  λ h. ap₂ ◌∷◌ (alike-eq _ _ (and_l _ _ h)) ((same-bodies-iff b (suc i) l).0 (and_r _ _ h)),
  λ e. both (eq-alike (cc)) ((same-bodies-iff b (suc i) l).1 (cc)),
)

-- the two bytes of a number
low_of : (b : List ℕ) (j : ℕ) {n : ℕ} → AllBytes b → n ≡ number_at b j → n % 256 ≡ get_or b j 0
low_of b j byte e = let x = byte j in omega arith

high_of : (b : List ℕ) (j : ℕ) {n : ℕ} → AllBytes b → n ≡ number_at b j → n / 256 % 256 ≡ get_or b (j + 1) 0
high_of b j byte e = let x = byte j in let y = byte (j + 1) in omega arith

-- the six bytes of an entry, and what follows
six : (b : List ℕ) (i : ℕ) → 8 + 6 * i ≤ length b
    → drop (2 + 6 * i) b
    ≡ kind_at b i ∷ second_at b i ∷ get_or b (4 + 6 * i) 0 ∷ get_or b (4 + 6 * i + 1) 0 ∷ get_or b (6 + 6 * i) 0 ∷ get_or b (6 + 6 * i + 1) 0 ∷ drop (2 + 6 * suc i) b
six b i l =
    let e0 = drop-next b (2 + 6 * i) (3 + 6 * i) (omega arith) (omega arith) in
    let e1 = drop-next b (3 + 6 * i) (4 + 6 * i) (omega arith) (omega arith) in
    let e2 = drop-next b (4 + 6 * i) (4 + 6 * i + 1) (omega arith) (omega arith) in
    let e3 = drop-next b (4 + 6 * i + 1) (6 + 6 * i) (omega arith) (omega arith) in
    let e4 = drop-next b (6 + 6 * i) (6 + 6 * i + 1) (omega arith) (omega arith) in
    let e5 = drop-next b (6 + 6 * i + 1) (2 + 6 * suc i) (omega arith) (omega arith) in
    cc

module _ (b : List ℕ) (k : ℕ) (p : Parts b k) where
  joined_back : (m i : ℕ) → i + m ≡ k → joined_up (bodies_from b i m) ≡ drop (begin_of b k i) b
  unfolding joined_up bodies_from
  joined_back zero i e =
      let last : i ≡ k = omega arith in
      sym (ap (λ (n : ℕ). drop n b) (ap (begin_of b k) last ∙ p.ends) ∙ drop-length b)
  joined_back (suc m) i e =
      let o = (parts-fit b k p i (omega arith)).offset in
      let back = joined_back m (suc i) (omega arith) in
      let L : ℕ = length_at b i in
      ap₂ (λ (n : ℕ) (r : List ℕ). take L (drop n b) ++ r) o
      (back ∙ ap (λ (n : ℕ). drop n b) (begin-more b k i) ∙ sym (drop-drop L (begin_of b k i) b))
      ∙ take-append-drop L (drop (begin_of b k i) b)

  entries-back : AllBytes b → 2 + 6 * k ≤ length b → (m i : ℕ) → i + m ≡ k
      → entries_of (suc i) (begin_of b k i) (lengths_of (bodies_from b i m)) ++ drop (2 + 6 * k) b ≡ drop (2 + 6 * i) b
  unfolding entries_of bodies_from
  entries-back byte long zero i e = let last : k ≡ i = omega arith in ap (λ (n : ℕ). drop (2 + 6 * n) b) last
  entries-back byte long (suc m) i e =
      let f = parts-fit b k p i (omega arith) in
      let kind = f.kind in
      let second = f.second in
      let o = f.offset in
      let l = parts_body b k p i (omega arith) in
      let back = entries-back byte long m (suc i) (omega arith) in
      let on : begin_of b k i + length (body_at b i) ≡ begin_of b k (suc i) = let n = begin-more b k i in omega arith in
      let o0 = low_of b (4 + 6 * i) byte (sym o) in
      let o1 = high_of b (4 + 6 * i) byte (sym o) in
      let l0 = low_of b (6 + 6 * i) byte l in
      let l1 = high_of b (6 + 6 * i) byte l in
      let s = six b i (omega arith) in
      cc

pub in_order_from : (b : List ℕ) (k : ℕ) → AllBytes b → in_order b k ≡ true → b ≡ image_from (bodies_from b 0 k)
unfolding image_from
in_order_from b k byte h =
    let p = in_order_parts b k h in
    let long = in_order_size b k h in
    let first = p.first in
    let second = p.entries in
    let e0 = drop-next b 0 1 (omega arith) (omega arith) in
    let e1 = drop-next b 1 2 (omega arith) (omega arith) in
    let joined = joined_back b k p k 0 (omega arith) in
    let entries = entries-back b k p byte (omega arith) k 0 (omega arith) in
    let start = begin-none b k in
    let size = bodies-length b 0 k in
    cc
