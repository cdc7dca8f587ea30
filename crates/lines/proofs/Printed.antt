-- What a program prints in a buffer that has room for its longest: the bytes, or the line of the refusal.
use Rattle.std.specs.Prelude.{Err, Ok}
use Rattle.refusal.specs.Verdicts.{Verdict}
use mathlib.Core.Path.{◌≡◌, refl, sym, ◌∙◌, subst}
use mathlib.Core.List.{List}
use Prim.Native.Nat.{ℕ, ◌≤◌}
use native.Mathlib.Nat.{le_trans}
use lib.ListN.{length}
use Rattle.refusal.specs.declared.Refusal.{Refusal}
use Rattle.laid.specs.Laid.{Page}
use Rattle.laid.specs.Lays.{Lays}
use Rattle.results.specs.Written.{Writes, room_for, Written}
use Rattle.results.proofs.Placed.{writes_as, lays-writes, room-fine}
use Rattle.results.proofs.Meaning.{not-refused, refused_in_room, refused-untouched}
use Rattle.lines.specs.Lines.{refusal_line, longest_refusal, Told, or_refused}

fine : (v : Verdict) (bytes : List ℕ) → v ≡ Ok tt → bytes ≡ or_refused v bytes
unfolding or_refused
fine v bytes e = rw (e, or_refused)

module _ {most : ℕ} {before : List ℕ} {v : Verdict} (bytes : List ℕ) (room : most ≤ length before) where
  -- the bytes, written by a call
  pub written-prints : {m : ℕ} {after : List ℕ} → Writes v bytes before (Ok m) after → Writes (room_for most before) (or_refused v bytes) before (Ok m) after
  written-prints {m} w = let e = not-refused bytes (length before) v m (sym w.answers) in writes_as (e ∙ sym (room-fine most before room)) (fine v bytes e) w

  -- the bytes, laid here
  pub lays-prints : {p : Page} → v ≡ Ok tt → Lays before p bytes → Writes (room_for most before) (or_refused v bytes) before (Ok p.at) p.bytes
  lays-prints e l = writes_as (sym (room-fine most before room)) (fine v bytes e) (lays-writes l)

  -- the line of the refusal
  pub fault-prints : {r : Refusal} {answer : Written} {after : List ℕ} → v ≡ Err r → longest_refusal ≤ most
      → Writes (room_for longest_refusal before) (refusal_line r) before answer after → Writes (room_for most before) (or_refused v bytes) before answer after
  unfolding or_refused
  fault-prints e l w = writes_as (room-fine longest_refusal before (le_trans l room) ∙ sym (room-fine most before room)) (rw (e, or_refused)) w

-- a call that writes, and what is told of it: where it writes nothing, that is for its verdict
pub told_prints : {most : ℕ} {before after last : List ℕ} {v : Verdict} (bytes : List ℕ) (x : Written) {answer : Written} → most ≤ length before → longest_refusal ≤ most
    → ((r : Refusal) → x ≡ Err r → v ≡ Err r) → Writes v bytes before x after → Told x after answer last → Writes (room_for most before) (or_refused v bytes) before answer last
told_prints bytes (Ok m) room line refused w (e, same) = rw (e, same) (written-prints bytes room w)
told_prints {most} {before} {after} {last} {v} bytes (Err r) {answer} room line refused w p =
    let same = refused-untouched bytes before after v r w in
    fault-prints bytes room (refused r refl) line (subst (λ (l : List ℕ). Writes (room_for longest_refusal l) (refusal_line r) l answer last) same p)

-- so where there is room for its bytes
pub call_prints : {most : ℕ} {before after last : List ℕ} {v : Verdict} (bytes : List ℕ) (x : Written) {answer : Written} → most ≤ length before → longest_refusal ≤ most
    → (v ≡ Ok tt → length bytes ≤ most) → Writes v bytes before x after → Told x after answer last → Writes (room_for most before) (or_refused v bytes) before answer last
call_prints {before = before} {v = v} bytes x room line fits w p =
    told_prints bytes x room line (λ r e. refused_in_room bytes (length before) v r (λ f. le_trans (fits f) room) (sym w.answers ∙ e)) w p
