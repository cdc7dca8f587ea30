-- Room or no room: what is answered and left.
use Rattle.std.specs.Prelude.{Err, Ok}
use Rattle.refusal.specs.Verdicts.{Verdict}
use mathlib.Core.Path.{◌≡◌, refl, sym, ◌∙◌, subst}
use mathlib.Core.List.{List}
use Prim.Native.Nat.{ℕ, ◌≤◌, ◌<◌}
use lib.ListN.{length}
use borrow.Author.Tests.{le-leb, lt-leb}
use Rattle.laid.specs.Laid.{Page}
use Rattle.laid.specs.Lays.{Lays}
use Rattle.laid.proofs.Pieces.{lays-at, lays-placed}
use Rattle.refusal.specs.declared.Refusal.{Refusal}
use Rattle.refusal.specs.declared.Refusal.TheVariants.{Short}
use Rattle.results.specs.Written.{placed, written_of, written_into, Writes, room_for, Written}

pub no_room : (bytes before : List ℕ) → length before < length bytes → Writes (Ok tt) bytes before (Err Short) before
unfolding written_of written_into
no_room bytes before h = record { answers = rw (lt-leb _ _ h, written_of); leaves = rw (lt-leb _ _ h, written_into) }

pub room : (bytes before : List ℕ) {after : List ℕ} → length bytes ≤ length before → after ≡ placed bytes before
    → Writes (Ok tt) bytes before (Ok (length bytes)) after
unfolding written_of written_into
room bytes before h e = record { answers = rw (le-leb _ _ h, written_of); leaves = rw (le-leb _ _ h, written_into) e }

pub refused : (r : Refusal) (bytes before : List ℕ) → Writes (Err r) bytes before (Err r) before
unfolding written_of written_into
refused r bytes before = record { answers = refl; leaves = refl }

-- where the verdict is fine and there is room, the bytes are written
pub written-whole : {v : Verdict} {bytes before after : List ℕ} {r : Written} → v ≡ Ok tt → length bytes ≤ length before → Writes v bytes before r after
    → (r ≡ Ok (length bytes)) × (after ≡ placed bytes before)
unfolding written_of written_into
written-whole e h w = (w.answers ∙ rw (e, le-leb _ _ h, written_of), w.leaves ∙ rw (e, le-leb _ _ h, written_into))

-- the same for a verdict that is known to be this, and bytes that are known to be these where it is fine
pub writes_where : (v : Verdict) {w : Verdict} {a b before after : List ℕ} {answer : Written} → v ≡ w → (v ≡ Ok tt → a ≡ b) → Writes v a before answer after
    → Writes w b before answer after
unfolding written_of written_into
writes_where (Ok _) {w} {a} {b} {before} {after} {answer} e q h =
    subst (λ (x : Verdict). Writes x b before answer after) e (subst (λ (x : List ℕ). Writes (Ok tt) x before answer after) (q refl) h)
writes_where (Err r) {b = b} {before = before} {after = after} {answer = answer} e q h =
    subst (λ (x : Verdict). Writes x b before answer after) e (record { answers = h.answers; leaves = h.leaves })

pub writes_as : {v w : Verdict} {a b before after : List ℕ} {answer : Written} → v ≡ w → a ≡ b → Writes v a before answer after → Writes w b before answer after
writes_as {v} e q h = writes_where v e (λ f. q) h

pub fault-writes : {v : Verdict} {r : Refusal} {bytes before : List ℕ} → v ≡ Err r → Writes v bytes before (Err r) before
fault-writes e = writes_as (sym e) refl (refused _ _ _)

-- an answer that passes on the refusal
pub err-writes : {v : Verdict} {r : Refusal} {bytes before : List ℕ} {answer : Written} → v ≡ Err r → answer ≡ Err r → Writes v bytes before answer before
err-writes {v} {bytes = bytes} {before = before} e a = subst (λ (x : Written). Writes v bytes before x before) (sym a) (fault-writes e)

pub fine-writes : {v : Verdict} {a b before after : List ℕ} {answer : Written} → v ≡ Ok tt → a ≡ b → Writes (Ok tt) a before answer after → Writes v b before answer after
fine-writes e q w = writes_as (sym e) q w

-- ---- what is laid at the front of the buffer is written

pub lays-writes : {bytes before : List ℕ} {p : Page} → Lays before p bytes → Writes (Ok tt) bytes before (Ok p.at) p.bytes
lays-writes {bytes} {before} {p} l =
    subst (λ (m : ℕ). Writes (Ok tt) bytes before (Ok m) p.bytes) (sym (lays-at l)) (room bytes before l.fits (lays-placed l))

-- ---- room for the longest, asked for first

module _ (most : ℕ) (before : List ℕ) where
  pub room-fine : most ≤ length before → room_for most before ≡ Ok tt
  unfolding room_for
  room-fine h = rw (le-leb _ _ h, room_for)

  pub room-short : length before < most → room_for most before ≡ Err Short
  unfolding room_for
  room-short h = rw (lt-leb _ _ h, room_for)

module _ {most : ℕ} {bytes before : List ℕ} where
  pub no-room_for : length before < most → Writes (room_for most before) bytes before (Err Short) before
  no-room_for h = fault-writes (room-short most before h)

  pub room-for : {p : Page} → most ≤ length before → Lays before p bytes → Writes (room_for most before) bytes before (Ok p.at) p.bytes
  room-for h l = fine-writes (room-fine most before h) refl (lays-writes l)
