-- Sentences about read: reading and writing are exact inverses, and 9 is given exactly when.
use Rattle.std.specs.Prelude.{Err, Ok}
use Rattle.refusal.specs.Verdicts.{Verdict}
use mathlib.Core.Path.{◌≡◌, sym, ◌∙◌, ap, ap₂}
use mathlib.Core.Bool.{Bool}
use mathlib.Core.List.{List}
use Prim.Native.Nat.{ℕ, ◌*◌, ◌/◌, ◌≤◌, ◌<◌}
use native.Mathlib.Omega.{arith}
use lib.ListN.{length, take}
use borrow.Author.Tests.{le-leb}
use Rattle.refusal.specs.declared.Refusal.TheVariants.{Short}
use Rattle.cabling.specs.Cabling.{Cabling, cabled, Good}
use Rattle.cabling.specs.Faults.{fault_of}
use Rattle.cabling.proofs.Meaning.{fault-fine}
use Rattle.format.specs.Contents.{pairs_in}
use Rattle.results.specs.Written.{placed, written_of, written_into, Writes, Written}
use Rattle.results.proofs.Meaning.{short_means}
use Rattle.results.proofs.Placed.{written-whole}
use Rattle.image.specs.Image.{image_of, kinds_of, cabling_in}
use Rattle.image.specs.Faults.{image_fault}
use Rattle.reading.specs.Reads.{Outcome, read_as, outcome_of, Reads}
use Rattle.reading.proofs.Reading.{read_front, read_refused}
use Rattle.image.proofs.Images.{read_kind, read_cabling, image-accepted, accepted-good, accepted}
use Rattle.image.proofs.Meaning.{image-not-short}

module _ (c : Cabling) (g : Good c) {before after : List ℕ} where
  -- the read call gives back N, M and the kind of what was written, and leaves the pairs at the buffer's front
  pub read_written : (full : Bool) {r : Outcome} → length c.pairs ≤ length before → Reads (image_of (kinds_of full) c) before r after
      → (r ≡ read_as c.nodes (length c.pairs / 2) full) × (after ≡ placed c.pairs before)
  unfolding written_of written_into
  read_written full h w =
      let b : List ℕ = image_of (kinds_of full) c in
      let fine = image-accepted c g full in
      let p = ap (λ (x : Cabling). x.pairs) (read_cabling c g full) in
      let n = ap (λ (x : Cabling). x.nodes) (read_cabling c g full) in
      let l = le-leb _ _ h in (
        w.answers ∙ ap₂ (λ (v : Verdict) (x : List ℕ). outcome_of b (written_of v x (length before))) fine p
            ∙ rw (l, written_of) (ap₂ (λ (x : ℕ) (f : Bool). read_as x (length c.pairs / 2) f) n (read_kind c g full)),
        w.leaves ∙ ap₂ (λ (v : Verdict) (x : List ℕ). written_into v x before) fine p ∙ rw (l, written_into),
      )

-- writing what was read gives back the same bytes: N, the pairs that read left at the front, and the kind, with room, write the image that was read
pub write_read : (b before after : List ℕ) (n m : ℕ) (full : Bool) → Reads b before (read_as n m full) after
    → {room left : List ℕ} {r : Written} → length b ≤ length room
    → Writes (fault_of (cabled n (take (2 * m) after))) (image_of (kinds_of full) (cabled n (take (2 * m) after))) room r left
    → (r ≡ Ok (length b)) × (left ≡ placed b room)
write_read b before after n m full c {room} {left} {r} h w =
    let f = read_front b before after n m full c in
    let g = accepted-good b f.fine in
    let even = g.even in
    let links = f.links in
    let size : 2 * m ≡ length (pairs_in b) = omega arith in
    let e : cabled n (take (2 * m) after) ≡ cabling_in b = ap₂ cabled f.nodes (ap (λ (k : ℕ). take k after) size ∙ f.front) in
    let i : image_of (kinds_of full) (cabled n (take (2 * m) after)) ≡ b =
    ap₂ (λ (k : Bool) (x : Cabling). image_of (kinds_of k) x) f.kind e ∙ sym (accepted b c.bytes f.fine) in
    written-whole (ap fault_of e ∙ (fault-fine (cabling_in b)).1 g) h (rw i at w)

-- ---- 9, RULES 9.1, "given exactly when": the verdict is fine and the result is longer than the buffer

pub read_short : (b before after : List ℕ) → Reads b before (Err Short) after → (image_fault b ≡ Ok tt) × (length before < length (pairs_in b))
read_short b before after c = (short_means _ _ (image_fault b) (image-not-short b)).0 (read_refused b before after Short c)

pub short_read : (b before after : List ℕ) {r : Outcome} → image_fault b ≡ Ok tt → length before < length (pairs_in b) → Reads b before r after → r ≡ Err Short
short_read b before after e h c =
    c.answers ∙ ap (outcome_of b) ((short_means _ _ (image_fault b) (image-not-short b)).1 (e, h))
