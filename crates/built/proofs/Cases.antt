-- What a build that finds room leaves in the buffer, and what is told of it, is what the program prints.
use mathlib.Core.Bool.{true}
use mathlib.Core.List.{List}
use Prim.Native.Nat.{ℕ, ◌≤◌}
use lib.Dec.{lit≤}
use lib.ListN.{length}
use Rattle.results.specs.Written.{Writes, room_for, Written}
use Rattle.lines.specs.Lines.{Told}
use Rattle.lines.proofs.Printed.{call_prints}
use Rattle.format.specs.Contents.{full_kinds}
use Rattle.image.specs.Image.{image_of, cabling_in}
use Rattle.image.specs.Faults.{links_fault}
use Rattle.image.proofs.Faults.{cabling-good, links-fine}
use Rattle.image.proofs.Images.{image-size}
use Rattle.built.specs.Builds.{longest_build, output_of}

pub built_prints : (b : List ℕ) {before after last : List ℕ} {x answer : Written} → longest_build ≤ length before
    → Writes (links_fault b) (image_of full_kinds (cabling_in b)) before x after → Told x after answer last → Writes (room_for longest_build before) (output_of b) before answer last
unfolding output_of
built_prints b {x = x} room w t =
    call_prints (image_of full_kinds (cabling_in b)) x room (lit≤ tt) (λ e. image-size true (cabling_in b) (cabling-good b (links-fine b e).1).0) w t
