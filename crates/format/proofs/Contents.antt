-- Laws of the contents: an entry is there or not, and the test of the contents part by part.
use mathlib.Core.Path.{◌≡◌}
use mathlib.Core.Bool.{true}
use mathlib.Core.List.{List}
use Rattle.std.proofs.Common.{Some, None}
use Prim.Native.Nat.{ℕ, ◌+◌, ◌*◌, ◌≤◌, ◌<◌}
use native.Mathlib.Omega.{arith}
use lib.Dec.{leb}
use lib.ListN.{length, get_or, get_or-eq_default}
use borrow.Author.Tests.{leb-true, le-leb}
use Rattle.finite.specs.Truth.{◌&◌, below}
use Rattle.finite.specs.Search.{all}
use Rattle.finite.proofs.Truth.{no_tf, bcase, both, and_l, and_r, same-eq, eq-same, below-lt, lt-below}
use Rattle.format.specs.declared.Entry.{Entry}
use Rattle.format.specs.Limits.{max_image}
use Rattle.format.specs.Contents.{number_at, length_at, stored_at, entry_of, begin_of, fitting, in_order}

-- past the image's end both bytes of a number are 0
pub number-none : (b : List ℕ) (i : ℕ) → length b ≤ i → number_at b i ≡ 0
number-none b i l =
    let low : get_or b i 0 ≡ 0 = get_or-eq_default b 0 l in
    let high : get_or b (i + 1) 0 ≡ 0 = get_or-eq_default b 0 (omega arith) in
    omega arith

-- ---- an entry

pub entry-there : (b : List ℕ) (i : ℕ) → 1 < length b → i < get_or b 1 0 → 8 + 6 * i ≤ length b
    → Some (stored_at b i) ≡ entry_of b i
unfolding entry_of
entry-there b i h k l = let t = both (lt-below h) (both (lt-below k) (le-leb _ _ l)) in rw (t, entry_of)

-- it is there as stored, or there is none
pub entry_case : {A : Type 0} (b : List ℕ) (i : ℕ) → (Some (stored_at b i) ≡ entry_of b i → A) → (None ≡ entry_of b i → A) → A
unfolding entry_of
entry_case b i there missing =
    bcase (below 1 (length b) & below i (get_or b 1 0) & leb (8 + 6 * i) (length b)) (λ t. there (rw (t, entry_of))) (λ t. missing (rw (t, entry_of)))

pub entry-missing : (b : List ℕ) (i : ℕ) → (1 < length b → i < get_or b 1 0 → 8 + 6 * i ≤ length b → ⊥) → None ≡ entry_of b i
unfolding entry_of
entry-missing b i h =
    bcase (below 1 (length b) & below i (get_or b 1 0) & leb (8 + 6 * i) (length b))
    (λ t. absurd (h (below-lt _ _ (and_l _ _ t)) (below-lt _ _ (and_l _ _ (and_r _ _ t))) (leb-true _ _ (and_r _ _ (and_r _ _ t)))))
    (λ t. rw (t, entry_of))

-- an entry that is there is the one that is stored, and its number is below byte 1
pub entry-stored : (b : List ℕ) (i : ℕ) {e : Entry} → Some e ≡ entry_of b i → (e ≡ stored_at b i) × (i < get_or b 1 0)
entry-stored b i found = (
  entry_case b i (λ there. cc) (λ none. cc),
  bcase (below i (get_or b 1 0)) (below-lt _ _) (λ f. let none = entry-missing b i (λ _ l _. no_tf (lt-below l) f) in cc),
)

-- ---- the test of the contents, part by part

pub record Parts (b : List ℕ) (k : ℕ) : Type 0 where
  pub small : length b ≤ max_image
  pub first : get_or b 0 0 ≡ 1
  pub entries : get_or b 1 0 ≡ k
  pub fit : all k (fitting b k) ≡ true
  pub ends : begin_of b k k ≡ length b
  pub long : 2 ≤ length_at b 0

pub in_order_parts : (b : List ℕ) (k : ℕ) → in_order b k ≡ true → Parts b k
unfolding in_order
in_order_parts b k h =
    let first = and_r _ _ h in
    let entries = and_r _ _ first in
    let fit = and_r _ _ entries in
    let ends = and_r _ _ fit in
    record {
      small = leb-true _ _ (and_l _ _ h);
      first = same-eq _ _ (and_l _ _ first);
      entries = same-eq _ _ (and_l _ _ entries);
      fit = and_l _ _ fit;
      ends = same-eq _ _ (and_l _ _ ends);
      long = leb-true _ _ (and_r _ _ ends);
    }

pub parts_in_order : {b : List ℕ} {k : ℕ} → Parts b k → in_order b k ≡ true
unfolding in_order
parts_in_order p =
    both (le-leb _ _ p.small)
    (both (eq-same p.first) (both (eq-same p.entries) (both p.fit (both (eq-same p.ends) (le-leb _ _ p.long)))))
