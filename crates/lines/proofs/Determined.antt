-- The promises of this crate's calls determine their answers and what they leave.
use Rattle.std.specs.Prelude.{Err, Ok}
use mathlib.Core.Path.{◌≡◌, sym, ◌∙◌}
use mathlib.Core.List.{List}
use Prim.Native.Nat.{ℕ}
use Rattle.laid.specs.Laid.{Page, page}
use Rattle.laid.proofs.Determined.{page_determined}
use Rattle.refusal.specs.declared.Refusal.{Refusal}
use Rattle.results.specs.Written.{Writes, room_for, Written}
use Rattle.results.proofs.Determined.{writes_determined}
use Rattle.lines.specs.Lines.{with_field, with_fields, with_rest, with_line, refusal_line, longest_refusal, Told}

module _ (p : Page) {b c : List ℕ} {r s : ℕ} where
  pub field_determined : (n : ℕ) → page b r ≡ with_field p n → page c s ≡ with_field p n → (b ≡ c) × (r ≡ s)
  field_determined n = page_determined

  pub fields_determined : (ns : List ℕ) → page b r ≡ with_fields p ns → page c s ≡ with_fields p ns → (b ≡ c) × (r ≡ s)
  fields_determined ns = page_determined

  pub rest_determined : (ns : List ℕ) → page b r ≡ with_rest p ns → page c s ≡ with_rest p ns → (b ≡ c) × (r ≡ s)
  rest_determined ns = page_determined

  pub line_determined : (first ns : List ℕ) → page b r ≡ with_line p first ns → page c s ≡ with_line p first ns → (b ≡ c) × (r ≡ s)
  line_determined first ns = page_determined

pub refusal_line_determined : (r : Refusal) {before l m : List ℕ} {a b : Written} → Writes (room_for longest_refusal before) (refusal_line r) before a l
    → Writes (room_for longest_refusal before) (refusal_line r) before b m → (a ≡ b) × (l ≡ m)
refusal_line_determined r = writes_determined

pub told_determined : (x : Written) (before : List ℕ) {l m : List ℕ} {a b : Written} → Told x before a l → Told x before b m → (a ≡ b) × (l ≡ m)
told_determined (Ok k) before (e, p) (f, q) = (e ∙ sym f, p ∙ sym q)
told_determined (Err r) before w v = writes_determined w v
