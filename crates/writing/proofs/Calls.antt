-- Sentences about write and build: a good cabling is never refused but for want of room, build writes what write writes, and 9 is given exactly when.
use Rattle.std.specs.Prelude.{Err, Ok}
use mathlib.Core.Path.{◌≡◌, sym, ◌∙◌, ap}
use mathlib.Core.Bool.{Bool, false}
use mathlib.Core.List.{List}
use mathlib.Core.Logic.{◌↔◌}
use Prim.Native.Nat.{ℕ, ◌≤◌, ◌<◌}
use lib.ListN.{length}
use Rattle.refusal.specs.declared.Refusal.TheVariants.{Short}
use Rattle.cabling.specs.Cabling.{Cabling, Good}
use Rattle.cabling.specs.Faults.{fault_of}
use Rattle.cabling.proofs.Meaning.{fault-fine, fault-not-short}
use Rattle.format.specs.Contents.{links_kinds, full_kinds}
use Rattle.results.specs.Written.{placed, written_of, Writes, Written}
use Rattle.results.proofs.Meaning.{short_means}
use Rattle.results.proofs.Placed.{written-whole}
use Rattle.image.specs.Image.{image_of, kinds_of, cabling_in}
use Rattle.image.specs.Faults.{links_fault}
use Rattle.image.proofs.Images.{read_cabling, links-accepted}
use Rattle.image.proofs.Meaning.{links-not-short}

module _ (c : Cabling) (g : Good c) {before after : List ℕ} where
  -- RULES 2.2: "Connected cabling inside the limits, given room, is never refused."
  pub never-refused : (full : Bool) {r : Written} → length (image_of (kinds_of full) c) ≤ length before
      → Writes (fault_of c) (image_of (kinds_of full) c) before r after → (r ≡ Ok (length (image_of (kinds_of full) c))) × (after ≡ placed (image_of (kinds_of full) c) before)
  never-refused full h w = written-whole ((fault-fine c).1 g) h w

  -- the full image that build writes of the links image is the one that write writes: the same answer and the same buffer
  pub build_as_write : {r : Written} → let b = image_of links_kinds c in
      Writes (links_fault b) (image_of full_kinds (cabling_in b)) before r after ↔ Writes (fault_of c) (image_of full_kinds c) before r after
  build_as_write {r} =
      let v = links-accepted c g ∙ sym ((fault-fine c).1 g) in
      let e = ap (image_of full_kinds) (read_cabling c g false) in
      (λ w. rw v at (rw e at w), λ w. rw (v, e) w)

-- ---- 9, RULES 9.1, "given exactly when": the verdict is fine and the result is longer than the buffer

pub write_short : (c : Cabling) (full : Bool) (room : ℕ)
    → (written_of (fault_of c) (image_of (kinds_of full) c) room ≡ Err Short) ↔ ((fault_of c ≡ Ok tt) × (room < length (image_of (kinds_of full) c)))
write_short c full room = short_means _ room (fault_of c) (fault-not-short c)

pub build_short : (b : List ℕ) (room : ℕ)
    → (written_of (links_fault b) (image_of full_kinds (cabling_in b)) room ≡ Err Short) ↔ ((links_fault b ≡ Ok tt) × (room < length (image_of full_kinds (cabling_in b))))
build_short b room = short_means _ room (links_fault b) (links-not-short b)
