-- What a promise of `Writes` says, by RULES 7.1 and RULES 9: 9 exactly where the result is longer than the buffer, a refused call leaves the buffer, and else
-- the result stands at the front and the bytes behind stay.
use Rattle.std.specs.Prelude.{Err, Ok}
use Rattle.refusal.specs.Verdicts.{Verdict}
use mathlib.Core.Path.{◌≡◌, refl, sym, ◌∙◌, ap}
use mathlib.Core.List.{List, ◌++◌}
use mathlib.Core.Logic.{◌↔◌}
use Prim.Native.Nat.{ℕ, ◌≤◌, ◌<◌}
use native.Mathlib.Omega.{arith}
use lib.Dec.{leb}
use lib.ListN.{length, take, drop}
use lib.Seq.{take_at, drop_at}
use borrow.Author.Tests.{le-leb, lt-leb, leb-true, leb-false}
use Rattle.finite.proofs.Truth.{bcase}
use Rattle.refusal.specs.declared.Refusal.{Refusal}
use Rattle.refusal.specs.declared.Refusal.TheVariants.{Short}
use Rattle.results.specs.Written.{written_of, written_into, Writes}

bytes-not-refused : {m : ℕ} {r : Refusal} → Ok m ≡ Err r → ⊥
bytes-not-refused e = let z : ◌≡◌ {A = ℕ} 0 1 = cc in omega arith

module _ (bytes : List ℕ) (room : ℕ) where
  written-room : length bytes ≤ room → written_of (Ok tt) bytes room ≡ Ok (length bytes)
  unfolding written_of
  written-room h = rw (le-leb _ _ h, written_of)

  written_none : room < length bytes → written_of (Ok tt) bytes room ≡ Err Short
  unfolding written_of
  written_none h = rw (lt-leb _ _ h, written_of)

  -- a refusal for another reason comes first
  pub written-fault : (r : Refusal) → written_of (Err r) bytes room ≡ Err r
  unfolding written_of
  written-fault r = refl

  -- 9, RULES 9.1: "the result is longer than the buffer"
  pub written-short : (written_of (Ok tt) bytes room ≡ Err Short) ↔ (room < length bytes)
  written-short = (
    λ e. bcase (leb (length bytes) room) (λ t. absurd (bytes-not-refused (sym (written-room (leb-true _ _ t)) ∙ e))) (λ f. leb-false _ _ f),
    written_none,
  )

  -- a call whose verdict is not 9 itself answers 9 exactly where it would write and finds no room
  pub short_means : (v : Verdict) → (v ≡ Err Short → ⊥) → (written_of v bytes room ≡ Err Short) ↔ ((v ≡ Ok tt) × (room < length bytes))
  short_means (Ok _) n = (λ e. (refl, written-short.0 e), λ h. written-short.1 h.1)
  short_means (Err r) n = (λ e. absurd (n (let f = written-fault r in cc)), λ h. absurd (n (let f = h.0 in cc)))

  -- what was written was not refused
  pub not-refused : (v : Verdict) (m : ℕ) → written_of v bytes room ≡ Ok m → v ≡ Ok tt
  not-refused (Ok _) m e = refl
  not-refused (Err r) m e = absurd (bytes-not-refused (sym e ∙ written-fault r))

  -- and it found room for all
  pub written-size : (v : Verdict) (m : ℕ) → written_of v bytes room ≡ Ok m → (m ≡ length bytes) × (length bytes ≤ room)
  written-size (Err r) m e = absurd (bytes-not-refused (sym e ∙ written-fault r))
  written-size (Ok _) m e =
      bcase (leb (length bytes) room) (λ t. let h = leb-true _ _ t in let f : Ok m ≡ Ok (length bytes) = sym e ∙ written-room h in (cc, h))
      (λ f. absurd (bytes-not-refused (sym e ∙ written_none (leb-false _ _ f))))

  -- where a fine verdict finds room, every refusal is the verdict
  pub refused_in_room : (v : Verdict) (r : Refusal) → (v ≡ Ok tt → length bytes ≤ room) → written_of v bytes room ≡ Err r → v ≡ Err r
  refused_in_room (Err q) r h e = let f = written-fault q in cc
  refused_in_room (Ok _) r h e = absurd (bytes-not-refused (sym (written-room (h refl)) ∙ e))

module _ (bytes before after : List ℕ) where
  -- RULES 9.3: "Buffers and record stay as they were."
  pub refused-untouched : (v : Verdict) (r : Refusal) → Writes v bytes before (Err r) after → after ≡ before
  unfolding written_into
  refused-untouched (Err q) r w = w.leaves
  refused-untouched (Ok _) r w =
      bcase (leb (length bytes) (length before))
      (λ t. absurd (bytes-not-refused (sym (written-room bytes (length before) (leb-true _ _ t)) ∙ sym w.answers))) (λ f. w.leaves ∙ rw (f, written_into))

  -- RULES 7.1: "Results are written at the front of a lent buffer, and the bytes behind stay."
  pub written-front : (v : Verdict) (m : ℕ) → Writes v bytes before (Ok m) after → (take m after ≡ bytes) × (drop m after ≡ drop m before)
  unfolding written_into
  written-front (Err q) m w = absurd (bytes-not-refused (w.answers ∙ written-fault bytes (length before) q))
  written-front (Ok _) m w =
      bcase (leb (length bytes) (length before))
      (λ t.
      let e : Ok m ≡ Ok (length bytes) = w.answers ∙ written-room bytes (length before) (leb-true _ _ t) in
      let k : m ≡ length bytes = cc in
      let a : after ≡ bytes ++ drop (length bytes) before = w.leaves ∙ rw (t, written_into) in (
        ap (take m) a ∙ take_at bytes (drop (length bytes) before) m (sym k),
        ap (drop m) a ∙ drop_at bytes (drop (length bytes) before) m (sym k) ∙ ap (λ (i : ℕ). drop i before) (sym k),
      )) (λ f. absurd (bytes-not-refused (w.answers ∙ written_none bytes (length before) (leb-false _ _ f))))
