-- A whole line behind what is laid: its fields one by one, and a bound on its length.
use mathlib.Core.Path.{◌≡◌, refl, sym, ◌∙◌, ap}
use mathlib.Core.List.{List, [], ◌∷◌, ◌++◌, map, append_assoc, append-nil}
use Rattle.std.proofs.lemmas.List.{get_or-map}
use Prim.Native.Nat.{ℕ, suc, ◌+◌, ◌*◌, ◌≤◌, ◌<◌, suc-le-suc}
use native.Mathlib.Nat.{le_refl}
use native.Mathlib.Numerals.{add-one}
use native.Mathlib.Omega.{arith}
use lib.ListN.{length, get_or, drop, replicate, length-map, length-replicate}
use lib.Seq.{drop-cons, drop-length}
use Rattle.laid.specs.Laid.{Page, page}
use Rattle.laid.specs.Lays.{Lays}
use Rattle.laid.proofs.Pieces.{Within, within_none, within_more, within_as}
use Rattle.refusal.specs.declared.Refusal.{Refusal}
use Rattle.refusal.specs.Number.{number_of, place_of}
use Rattle.text.specs.Text.{decimal_of}
use Rattle.text.proofs.Decimal.{decimal-bound}
use Rattle.lines.specs.Lines.{field_of, fields_of, line_of, refused_word, refusal_line, longest_refusal, with_field, with_fields, with_line}

-- the fields that are left, behind those that stand there already, make them all
pub record Fields (p : Page) (ns : List ℕ) (now : Page) (i : ℕ) : Type 0 where
  pub inside : i ≤ length ns
  pub rest : with_fields now (drop i ns) ≡ with_fields p ns

pub fields-begin : (p : Page) (ns : List ℕ) → Fields p ns p 0
fields-begin p ns = record { inside = omega arith; rest = refl }

pub fields-next : {p : Page} {ns : List ℕ} {now r : Page} {i : ℕ} → Fields p ns now i → i < length ns
    → r ≡ with_field now (get_or ns i 0) → Fields p ns r (i + 1)
unfolding with_fields
fields-next {p} {ns} {now} {r} {i} f l e = record {
  inside = omega arith;
  rest = rw (e, add-one) (sym (ap (with_fields now) (drop-cons ns i 0 l)) ∙ f.rest);
}

-- of what n makes of the items of a list
pub fields-next-in : {T : Type 0} (n : T → ℕ) (xs : List T) {p : Page} {now r : Page} {i : ℕ} {x : T} → Fields p (map n xs) now i → i < length xs
    → x ≡ get_or xs i x → r ≡ with_field now (n x) → Fields p (map n xs) r (i + 1)
fields-next-in n xs {now = now} {i = i} {x = x} f l is e =
    let long = length-map xs n in
    fields-next f (omega arith) (e ∙ ap (with_field now) (ap n is ∙ sym (get_or-map n xs i x 0 l)))

pub fields-end : {p : Page} {ns : List ℕ} {now : Page} {i : ℕ} → Fields p ns now i → length ns ≤ i → now ≡ with_fields p ns
unfolding with_fields
fields-end {p} {ns} {now} {i} f l =
    let b = f.inside in
    let e : i ≡ length ns = omega arith in
    sym (ap (λ (j : ℕ). with_fields now (drop j ns)) e ∙ ap (with_fields now) (drop-length ns)) ∙ f.rest

-- numbers of at most d digits each
module _ (d : ℕ) where
  abbrev pub Short : List ℕ → Type 0
  Short ns = (i : ℕ) → i < length ns → length (decimal_of (get_or ns i 0)) ≤ d

  pub within-field : {b s : List ℕ} {p q : Page} {k : ℕ} (n : ℕ) → Within b p s k → q ≡ with_field p n
      → length (decimal_of n) ≤ d → k + suc d ≤ length b → Within b q (s ++ field_of n) (k + suc d)
  within-field {s = s} {k = k} n w e few l =
      within_as (k + suc d) (within_more (decimal_of n) d (within_more (32 ∷ []) 1 w refl (le_refl 1) (omega arith)) e few (omega arith))
      (append_assoc s (32 ∷ []) (decimal_of n)) (omega arith)

  pub within-fields : (ns : List ℕ) {b s : List ℕ} {p : Page} {k : ℕ} → Short ns → Within b p s k → k + length ns * suc d ≤ length b
      → Within b (with_fields p ns) (s ++ fields_of ns) (k + length ns * suc d)
  unfolding with_fields fields_of
  within-fields [] {s = s} {k = k} short w l = within_as (k + 0 * suc d) w (sym (append-nil s)) (omega arith)
  within-fields (n ∷ ns) {s = s} {k = k} short w l =
      let few = short 0 (omega arith) in
      let one = within-field n w refl few (omega arith) in
      let all = within-fields ns (λ i b. short (suc i) (suc-le-suc b)) one (omega arith) in
      within_as (k + length (n ∷ ns) * suc d) all (append_assoc s (field_of n) (fields_of ns)) (omega arith)

  pub within-line : (first ns : List ℕ) (j : ℕ) {b s : List ℕ} {p q : Page} {k : ℕ} → length first ≤ j → Short ns → Within b p s k → q ≡ with_line p first ns
      → k + j + length ns * suc d + 1 ≤ length b → Within b q (s ++ line_of first ns) (k + j + length ns * suc d + 1)
  unfolding with_line
  within-line first ns j {s = s} {k = k} few short w e l =
      let x = within_more first j w refl few (omega arith) in
      let y = within-fields ns short x (omega arith) in
      let z = within_more (10 ∷ []) 1 y e (le_refl 1) (omega arith) in
      within_as (k + j + length ns * suc d + 1) z (simp append_assoc) (omega arith)

  pub line-length : (first ns : List ℕ) → Short ns → length (line_of first ns) ≤ length first + length ns * suc d + 1
  line-length first ns short =
      let m = 0 + length first + length ns * suc d + 1 in
      let e = length-replicate {A = ℕ} m 0 in
      let n = (within-line first ns (length first) (le_refl _) short (within_none (replicate m 0)) refl (omega arith)).bound in
      omega arith

-- numbers of any length
any-short : (ns : List ℕ) → Short 21 ns
any-short ns i l = decimal-bound (get_or ns i 0)

pub line-bound : (first ns : List ℕ) → length (line_of first ns) ≤ length first + length ns * 22 + 1
line-bound first ns = line-length 21 first ns (any-short ns)

-- a line alone in a buffer
pub lays-line : (first ns : List ℕ) {b : List ℕ} {q : Page} → q ≡ with_line (page b 0) first ns → length first + length ns * 22 + 1 ≤ length b → Lays b q (line_of first ns)
lays-line first ns {b} e l = (within-line 21 first ns (length first) (le_refl _) (any-short ns) (within_none b) e (omega arith)).lays

pub refusal_length : (r : Refusal) → length (refusal_line r) ≤ longest_refusal
unfolding refusal_line
refusal_length r = line-bound refused_word (number_of r ∷ place_of r ∷ [])
