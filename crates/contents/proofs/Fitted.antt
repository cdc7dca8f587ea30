-- What the loop over the entries keeps: those passed fit, and the next body is to begin where the last one ends.
use mathlib.Core.Path.{◌≡◌, refl, sym, ◌∙◌, ap}
use mathlib.Core.Bool.{true}
use mathlib.Core.List.{List}
use Prim.Native.Nat.{ℕ, ◌+◌, ◌*◌, ◌≤◌, ◌<◌}
use native.Mathlib.Numerals.{add-one}
use native.Mathlib.Omega.{arith}
use Rattle.std.proofs.Common.{Option, Some}
use lib.ListN.{length, get_or}
use Rattle.finite.specs.Search.{all}
use Rattle.finite.proofs.Truth.{both}
use Rattle.finite.proofs.Search.{all_more}
use Rattle.format.specs.Limits.{max_image}
use Rattle.format.specs.Contents.{kind_at, second_at, offset_at, length_at, stored_at, entry_of, begin_of, fitting, in_order}
use Rattle.format.specs.Bytes.{AllBytes}
use Rattle.format.specs.declared.Entry.{Entry}
use Rattle.contents.specs.declared.Reader.{Reader}
use Rattle.contents.specs.Walking.{next_after, step_from}
use Rattle.format.proofs.Contents.{entry-there, entry-stored, in_order_parts, parts_in_order}
use Rattle.format.proofs.Order.{fits-fitting, begin-none, begin-more, parts-fit, in_order_size, in_order_kinds}

-- a step that finds an entry goes on by one
pub found_one : (r : Reader) {s : Reader} {e : Entry} → ◌≡◌ {A = Option Entry × Reader} (Some e, s) (step_from r)
    → (Some e ≡ entry_of r.image.now r.next) × (s.image.now ≡ r.image.now) × (s.next ≡ r.next + 1)
found_one r h =
    let found = ap (λ (x : Option Entry × Reader). x.0) h in (
      found,
      ap (λ (x : Option Entry × Reader). x.1.image.now) h,
      ap (λ (x : Option Entry × Reader). x.1.next) h ∙ ap (λ (x : Option Entry). next_after x r.next) (sym found) ∙ sym (add-one r.next),
    )

-- the entries before i fit, and the body of entry i is to begin at `begin`
pub record Fitted (b : List ℕ) (k begin i : ℕ) : Type 0 where
  pub at : begin ≡ begin_of b k i
  pub fit : all i (fitting b k) ≡ true
  pub low : begin ≤ 2 + 6 * k + max_image * i

pub fitted_none : (b : List ℕ) (k : ℕ) → Fitted b k (2 + 6 * k) 0
unfolding all
fitted_none b k = record { at = sym (begin-none b k); fit = refl; low = omega arith }

module _ (b : List ℕ) (i : ℕ) {e : Entry} (found : Some e ≡ entry_of b i) where
  stored : e ≡ stored_at b i
  stored = (entry-stored b i found).0

  -- the length of an entry is a number of 16 bits
  pub length-low : AllBytes b → e.length ≤ max_image
  length-low bytes =
      let l = ap (λ (x : Entry). x.length) stored in
      let low = bytes (6 + 6 * i) in
      let high = bytes (6 + 6 * i + 1) in
      omega arith

module _ {b : List ℕ} {k begin i : ℕ} {e : Entry} (f : Fitted b k begin i) (found : Some e ≡ entry_of b i) where
  pub fitted_more : AllBytes b → (e.kind ≡ i + 1) × (e.second ≡ 0) × (e.offset ≡ begin) → Fitted b k (begin + e.length) (i + 1)
  fitted_more bytes fits =
      let s = stored b i found in
      let kind = ap (λ (x : Entry). x.kind) s in
      let second = ap (λ (x : Entry). x.second) s in
      let offset = ap (λ (x : Entry). x.offset) s in
      let l = ap (λ (x : Entry). x.length) s in
      let size = length-low b i found bytes in
      let more = begin-more b k i in
      let at = f.at in
      let low = f.low in
      rw add-one
      record {
        at = omega arith;
        fit = all_more i (fitting b k) ∙ both (fits-fitting (record { kind = omega arith; second = omega arith; offset = omega arith })) f.fit;
        low = omega arith;
      }

module _ {b : List ℕ} {k begin i : ℕ} (f : Fitted b k begin i) where
  -- contents in order have every entry, and it fits
  pub found_fits : {e : Option Entry} → e ≡ entry_of b i → i < k → in_order b k ≡ true
      → (e ≡ Some (stored_at b i)) × (kind_at b i ≡ i + 1) × (second_at b i ≡ 0) × (offset_at b i ≡ begin)
  found_fits found l h =
      let room = in_order_size b k h in
      let number = in_order_kinds b k h in
      let r = parts-fit b k (in_order_parts b k h) i l in
      let at = f.at in
      (found ∙ sym (entry-there b i (omega arith) (omega arith) (omega arith)), r.kind ∙ sym (add-one i), r.second, r.offset ∙ sym at)

  -- all k entries passed
  pub at_last : i ≡ k → begin ≡ begin_of b k k
  at_last last = f.at ∙ ap (begin_of b k) last

  pub fitted_all : i ≡ k → length b ≤ max_image → get_or b 0 0 ≡ 1 → get_or b 1 0 ≡ k → begin ≡ length b → 2 ≤ length_at b 0 → in_order b k ≡ true
  fitted_all last small first entries ends long =
      parts_in_order (record {
        small = small;
        first = first;
        entries = entries;
        fit = ap (λ (m : ℕ). all m (fitting b k)) (sym last) ∙ f.fit;
        ends = sym (at_last last) ∙ ends;
        long = long;
      })
