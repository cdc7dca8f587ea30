-- What is written from bodies is read back: the image's length, that its contents are in order, and its bodies.
use mathlib.Core.Path.{◌≡◌, refl, sym, ◌∙◌, ap, ap₂}
use mathlib.Core.Bool.{true}
use mathlib.Core.List.{List, [], ◌∷◌, ◌++◌}
use Prim.Native.Nat.{ℕ, zero, suc, ◌+◌, ◌*◌, ◌/◌, ◌%◌, ◌≤◌, ◌<◌}
use native.Mathlib.Nat.{zero-add, add-zero}
use native.Mathlib.Omega.{arith}
use lib.ListN.{length, get_or, take, drop, length-append, length-map}
use lib.Seq.{get_or-drop, drop-drop, drop_at, drop-append_seam, take-append_seam}
use Rattle.finite.specs.Lists.{joined_up}
use Rattle.finite.specs.Truth.{same}
use Rattle.finite.specs.Sum.{sum_to}
use Rattle.finite.proofs.Truth.{bcase, same-eq, same-ne}
use Rattle.finite.proofs.Sum.{sum_first}
use Rattle.finite.proofs.Search.{every_all}
use Rattle.format.specs.Limits.{max_image}
use Rattle.format.specs.Contents.{length_at, begin_of, fitting, in_order}
use Rattle.format.specs.Bytes.{entry_bytes, entries_of, lengths_of, image_from, bodies_from}
use Rattle.format.proofs.Contents.{parts_in_order}
use Rattle.format.proofs.Order.{Fits, fits-fitting, begin-none, begin-more}

pub entries-length : (kind offset : ℕ) (sizes : List ℕ) → length (entries_of kind offset sizes) ≡ 6 * length sizes
unfolding entries_of
entries-length kind offset [] = refl
entries-length kind offset (size ∷ sizes) = let h = entries-length (suc kind) (offset + size) sizes in omega arith

-- the entries of the first i sizes, then the next one
pub entries-more : (kind offset : ℕ) (sizes : List ℕ) (i : ℕ) → i < length sizes
    → entries_of kind offset (take (suc i) sizes)
    ≡ entries_of kind offset (take i sizes) ++ entry_bytes (kind + i) (offset + sum_to i (λ j. get_or sizes j 0)) (get_or sizes i 0)
unfolding entries_of sum_to
entries-more kind offset [] i l = absurd (omega arith)
entries-more kind offset (size ∷ sizes) zero l = simp add-zero
entries-more kind offset (size ∷ sizes) (suc i) l =
    let on : suc kind + i ≡ kind + suc i = omega arith in
    let further : offset + size + sum_to i (λ j. get_or sizes j 0) ≡ offset + sum_to (suc i) (λ j. get_or (size ∷ sizes) j 0) = let e = sum_first i (λ j. get_or (size ∷ sizes) j 0) in omega arith in
    ap (λ (r : List ℕ). entry_bytes kind offset size ++ r)
    (entries-more (suc kind) (offset + size) sizes i (omega arith)
    ∙ ap₂ (λ (k o : ℕ). entries_of (suc kind) (offset + size) (take i sizes) ++ entry_bytes k o (get_or sizes i 0)) on further)

front_length : (bodies : List (List ℕ)) → length (entries_of 1 (2 + 6 * length bodies) (lengths_of bodies)) ≡ 6 * length bodies
front_length bodies = entries-length 1 (2 + 6 * length bodies) (lengths_of bodies) ∙ ap (λ (n : ℕ). 6 * n) (length-map bodies length)

pub from-length : (bodies : List (List ℕ)) → length (image_from bodies) ≡ 2 + 6 * length bodies + length (joined_up bodies)
unfolding image_from
from-length bodies =
    let e = front_length bodies in
    let a = length-append (entries_of 1 (2 + 6 * length bodies) (lengths_of bodies)) (joined_up bodies) in
    omega arith

-- from entry i on, the image b has entries of these bodies, which stand from `offset` on to its end
record Laid (b : List ℕ) (i offset : ℕ) (bodies : List (List ℕ)) : Type 0 where
  rest : List ℕ
  entries : drop (2 + 6 * i) b ≡ entries_of (suc i) offset (lengths_of bodies) ++ rest
  parts : drop offset b ≡ joined_up bodies
  ends : offset + length (joined_up bodies) ≡ length b

laid-all : (bodies : List (List ℕ)) → Laid (image_from bodies) 0 (2 + 6 * length bodies) bodies
unfolding image_from
laid-all bodies = record {
  rest = joined_up bodies;
  entries = refl;
  parts = drop_at (1 ∷ length bodies ∷ entries_of 1 (2 + 6 * length bodies) (lengths_of bodies)) (joined_up bodies) (2 + 6 * length bodies)
      (let e = front_length bodies in omega arith);
  ends = sym (from-length bodies);
}

-- a byte of a list is read from what is left after its first n
from-drop : (b : List ℕ) (n : ℕ) {l : List ℕ} → drop n b ≡ l → (j m : ℕ) → m ≡ n + j → get_or b m 0 ≡ get_or l j 0
from-drop b n e j m h = ap (λ (x : ℕ). get_or b x 0) h ∙ sym (get_or-drop n b j 0) ∙ ap (λ (x : List ℕ). get_or x j 0) e

low-high : (x : ℕ) → x ≤ max_image → x % 256 + 256 * (x / 256 % 256) ≡ x
low-high x l = omega arith

-- what the image b of kinds 1, .., k then has from entry i on
record Found (b : List ℕ) (k i : ℕ) (bodies : List (List ℕ)) : Type 0 where
  fit : (j : ℕ) → i ≤ j → j < i + length bodies → fitting b k j ≡ true
  ends : begin_of b k (i + length bodies) ≡ length b
  bodies-back : bodies_from b i (length bodies) ≡ bodies

module _ (b : List ℕ) (k : ℕ) (small : length b ≤ max_image) where
  laid-fits : (i offset : ℕ) (body : List ℕ) (bodies : List (List ℕ)) → Laid b i offset (body ∷ bodies) → begin_of b k i ≡ offset → Fits b k i × (length_at b i ≡ length body)
  unfolding entries_of joined_up
  laid-fits i offset body bodies q e =
      let at = from-drop b (2 + 6 * i) q.entries in
      let s = q.ends in
      let a = length-append body (joined_up bodies) in
      let o0 = at 2 (4 + 6 * i) (omega arith) in
      let o1 = at 3 (4 + 6 * i + 1) (omega arith) in
      let l0 = at 4 (6 + 6 * i) (omega arith) in
      let l1 = at 5 (6 + 6 * i + 1) (omega arith) in
      let o = low-high offset (omega arith) in
      let l = low-high (length body) (omega arith) in (
        record { kind = at 0 (2 + 6 * i) (omega arith); second = at 1 (3 + 6 * i) (omega arith); offset = omega arith },
        omega arith,
      )

  laid_next : (i offset : ℕ) (body : List ℕ) (bodies : List (List ℕ)) → Laid b i offset (body ∷ bodies) → Laid b (suc i) (offset + length body) bodies
  unfolding entries_of joined_up
  laid_next i offset body bodies q = record {
    rest = q.rest;
    entries = ap (λ (n : ℕ). drop n b) (six i) ∙ sym (drop-drop 6 (2 + 6 * i) b) ∙ ap (drop 6) q.entries;
    parts = sym (drop-drop (length body) offset b) ∙ ap (drop (length body)) q.parts ∙ drop-append_seam body (joined_up bodies);
    ends = let s = q.ends in let a = length-append body (joined_up bodies) in omega arith;
  }
    where
      six : (i : ℕ) → 2 + 6 * suc i ≡ 2 + 6 * i + 6
      six i = omega arith

  laid-found : (i offset : ℕ) (bodies : List (List ℕ)) → Laid b i offset bodies → begin_of b k i ≡ offset → Found b k i bodies
  unfolding joined_up bodies_from
  laid-found i offset [] q e = record {
    fit = λ j l h. absurd (omega arith);
    ends = ap (begin_of b k) (add-zero i) ∙ e ∙ sym (add-zero offset) ∙ q.ends;
    bodies-back = refl;
  }
  laid-found i offset (body ∷ bodies) q e =
      let f = laid-fits i offset body bodies q e in
      let m = begin-more b k i in
      let s = f.1 in
      let n = laid-found (suc i) (offset + length body) bodies (laid_next i offset body bodies q) (omega arith) in
      let on : i + suc (length bodies) ≡ suc i + length bodies = omega arith in
      record {
        fit = λ j l h.
            bcase (same i j) (λ t. rw (← same-eq i j t) (fits-fitting f.0))
            (λ t. let d = same-ne i j t in n.fit j (omega arith) (omega arith));
        ends = ap (begin_of b k) on ∙ n.ends;
        bodies-back = ap₂ ◌∷◌
            (ap₂ (λ (l o : ℕ). take l (drop o b)) s (f.0.offset ∙ e) ∙ ap (take (length body)) q.parts
            ∙ take-append_seam body (joined_up bodies))
            n.bodies-back;
      }

module _ (body : List ℕ) (rest : List (List ℕ)) (small : length (image_from (body ∷ rest)) ≤ max_image) where
  found : Found (image_from (body ∷ rest)) (suc (length rest)) 0 (body ∷ rest)
  found = laid-found _ _ small 0 (2 + 6 * suc (length rest)) (body ∷ rest) (laid-all (body ∷ rest)) (begin-none _ _)

  pub from_in_order : 2 ≤ length body → in_order (image_from (body ∷ rest)) (suc (length rest)) ≡ true
  unfolding image_from
  from_in_order l =
      let b : List ℕ = image_from (body ∷ rest) in
      let k : ℕ = suc (length rest) in
      parts_in_order (record {
        small = small;
        first = refl;
        entries = refl;
        fit = every_all k (fitting b k) (λ j h. found.fit j (omega arith) (omega arith));
        ends = ap (begin_of b k) (sym (zero-add k)) ∙ found.ends;
        long = let s = (laid-fits b k small 0 (2 + 6 * k) body rest (laid-all (body ∷ rest)) (begin-none b k)).1 in omega arith;
      })

  pub from-bodies : bodies_from (image_from (body ∷ rest)) 0 (suc (length rest)) ≡ body ∷ rest
  from-bodies = found.bodies-back
