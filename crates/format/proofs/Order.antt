-- The test of the contents passes exactly where the parts of RULES 6.1 hold; byte 1 decides the kinds, and every body lies inside the image.
use mathlib.Core.Path.{◌≡◌, refl, sym, ◌∙◌, ap}
use mathlib.Core.Bool.{true}
use mathlib.Core.List.{List}
use mathlib.Core.Logic.{◌↔◌}
use Prim.Native.Nat.{ℕ, zero, suc, ◌+◌, ◌*◌, ◌≤◌, ◌<◌}
use native.Mathlib.Nat.{le_refl, lt-suc_self}
use native.Mathlib.Omega.{arith}
use lib.ListN.{length, get_or, length-take, length-drop}
use Rattle.finite.specs.Truth.{same}
use Rattle.finite.proofs.Truth.{bcase, both, and_l, and_r, same-eq, same-ne, eq-same}
use Rattle.finite.proofs.Search.{all_every, every_all}
use Rattle.format.specs.Contents.{kind_at, second_at, offset_at, length_at, begin_of, fitting, in_order}
use Rattle.format.specs.Bytes.{body_at}
use Rattle.format.specs.Order.{InOrder}
use Rattle.format.proofs.Contents.{number-none, Parts, in_order_parts, parts_in_order}

-- what `fitting` says, and how it is made
pub record Fits (b : List ℕ) (k i : ℕ) : Type 0 where
  pub kind : kind_at b i ≡ suc i
  pub second : second_at b i ≡ 0
  pub offset : offset_at b i ≡ begin_of b k i

pub fitting-fits : (b : List ℕ) (k i : ℕ) → fitting b k i ≡ true → Fits b k i
unfolding fitting
fitting-fits b k i h = record {
  kind = same-eq _ _ (and_l _ _ h);
  second = same-eq _ _ (and_l _ _ (and_r _ _ h));
  offset = same-eq _ _ (and_r _ _ (and_r _ _ h));
}

pub fits-fitting : {b : List ℕ} {k i : ℕ} → Fits b k i → fitting b k i ≡ true
unfolding fitting
fits-fitting f = both (eq-same f.kind) (both (eq-same f.second) (eq-same f.offset))

pub begin-none : (b : List ℕ) (k : ℕ) → begin_of b k 0 ≡ 2 + 6 * k
unfolding begin_of
begin-none b k = refl

pub begin-more : (b : List ℕ) (k i : ℕ) → begin_of b k (suc i) ≡ begin_of b k i + length_at b i
unfolding begin_of
begin-more b k i = refl

pub begin-le : (b : List ℕ) (k i j : ℕ) → i ≤ j → begin_of b k i ≤ begin_of b k j
begin-le b k i zero l = let e : i ≡ 0 = omega arith in rw e (le_refl _)
begin-le b k i (suc j) l =
    bcase (same i (suc j)) (λ t. rw (same-eq i (suc j) t) (le_refl _))
    (λ t.
    let n = same-ne i (suc j) t in
    let h = begin-le b k i j (omega arith) in
    let e = begin-more b k j in
    omega arith)

-- an image of no entries has no kind 1
some-entry : (b : List ℕ) (k : ℕ) → begin_of b k k ≡ length b → 2 ≤ length_at b 0 → 0 < k
some-entry b zero e l = let z = begin-none b 0 in let n = number-none b 6 (omega arith) in omega arith
some-entry b (suc k) e l = omega arith

module _ (b : List ℕ) (k : ℕ) (p : Parts b k) where
  pub parts-fit : (i : ℕ) → i < k → Fits b k i
  parts-fit i l = fitting-fits b k i (all_every k (fitting b k) p.fit i l)

  pub parts-some : 0 < k
  parts-some = some-entry b k p.ends p.long

  -- every body lies inside the image
  pub parts-inside : (i : ℕ) → i < k → offset_at b i + length_at b i ≤ length b
  parts-inside i l =
      let o = (parts-fit i l).offset in
      let m = begin-more b k i in
      let n = begin-le b k (suc i) k l in
      let e = p.ends in
      omega arith

  pub parts_body : (i : ℕ) → i < k → length (body_at b i) ≡ length_at b i
  parts_body i l = let h = parts-inside i l in simp (length-take, length-drop) (omega arith)

  pub parts-words : InOrder b k
  parts-words = record {
    small = p.small;
    first = p.first;
    entries = p.entries;
    some = parts-some;
    kinds = λ i l. (parts-fit i l).kind;
    zeros = λ i l. (parts-fit i l).second;
    begins = (parts-fit 0 parts-some).offset ∙ begin-none b k;
    follows = λ i l. let f = (parts-fit (suc i) l).offset in let g = (parts-fit i (omega arith)).offset in let e = begin-more b k i in omega arith;
    ends = λ i e. let f = (parts-fit i (omega arith)).offset in let m = begin-more b k i in let n = ap (begin_of b k) e in let q = p.ends in omega arith;
    long = p.long;
  }

words-begin : (b : List ℕ) (k : ℕ) → InOrder b k → (i : ℕ) → i < k → offset_at b i ≡ begin_of b k i
words-begin b k w zero l = w.begins ∙ sym (begin-none b k)
words-begin b k w (suc i) l =
    let h = words-begin b k w i (omega arith) in
    let e = begin-more b k i in
    let f = w.follows i l in
    omega arith

words-parts : (b : List ℕ) (k : ℕ) → InOrder b k → Parts b k
words-parts b zero w = let z = w.some in absurd (omega arith)
words-parts b (suc k) w = record {
  small = w.small;
  first = w.first;
  entries = w.entries;
  fit = every_all (suc k) (fitting b (suc k)) (λ i l. fits-fitting (record {
    kind = w.kinds i l;
    second = w.zeros i l;
    offset = words-begin b (suc k) w i l;
  }));
  ends = let m = begin-more b (suc k) k in let o = words-begin b (suc k) w k (lt-suc_self k) in let e = w.ends k refl in omega arith;
  long = w.long;
}

pub in_order_iff : (b : List ℕ) (k : ℕ) → (in_order b k ≡ true) ↔ InOrder b k
in_order_iff b k = (λ h. parts-words b k (in_order_parts b k h), λ w. parts_in_order (words-parts b k w))

-- ---- what an image in order has

module _ (b : List ℕ) (k : ℕ) (h : in_order b k ≡ true) where
  pub in_order_some : 0 < k
  in_order_some = parts-some b k (in_order_parts b k h)

  pub in_order_body : (i : ℕ) → i < k → length (body_at b i) ≡ length_at b i
  in_order_body = parts_body b k (in_order_parts b k h)

  -- the contents and the two bytes before the pairs are there
  pub in_order_size : 4 + 6 * k ≤ length b
  in_order_size =
      let p = in_order_parts b k h in
      let l = parts-some b k p in
      let i = parts-inside b k p 0 l in
      let o = (parts-fit b k p 0 l).offset in
      let e = begin-none b k in
      let n = p.long in
      omega arith

  -- byte 1 decides the kinds
  pub in_order_kinds : get_or b 1 0 ≡ k
  in_order_kinds = (in_order_parts b k h).entries

pub in_order_one : (b : List ℕ) (k m : ℕ) → in_order b k ≡ true → in_order b m ≡ true → k ≡ m
in_order_one b k m h l = sym (in_order_kinds b k h) ∙ in_order_kinds b m l
