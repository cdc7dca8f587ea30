-- What show prints: the report on the cabling, whichever of its images is read, or the line of the refusal alone.
use Rattle.std.specs.Prelude.{Result, Err, Ok}
use Rattle.refusal.specs.Verdicts.{Verdict}
use mathlib.Core.Path.{◌≡◌, ◌∙◌, ap}
use mathlib.Core.Bool.{Bool}
use mathlib.Core.List.{List}
use Prim.Native.Nat.{ℕ, ◌≤◌}
use lib.Dec.{lit≤}
use lib.ListN.{length}
use Rattle.refusal.specs.declared.Refusal.{Refusal}
use Rattle.cabling.specs.Cabling.{Cabling, cabled, Good}
use Rattle.fabric.specs.declared.Fabric.{Fabric}
use Rattle.fabric.specs.Fabric.{fabric_of, made_by}
use Rattle.fabric.proofs.Making.{fault-made, fine-made}
use Rattle.laid.specs.Laid.{Page}
use Rattle.laid.specs.Lays.{Lays}
use Rattle.laid.proofs.Pieces.{lays_as}
use Rattle.results.proofs.Placed.{fine-writes, lays-writes}
use Rattle.results.specs.Written.{Writes, room_for, Written}
use Rattle.lines.specs.Lines.{refusal_line, longest_refusal, or_refused, Told}
use Rattle.lines.proofs.Printed.{lays-prints, fault-prints, told_prints}
use Rattle.format.specs.Contents.{pairs_in}
use Rattle.image.specs.Image.{image_of, kinds_of, cabling_in}
use Rattle.image.specs.Faults.{image_fault}
use Rattle.fabric.proofs.Parts.{cabling_of, full-asks}
use Rattle.image.proofs.Images.{accepted-good, image-accepted, read_cabling}
use Rattle.shown.specs.Shows.{report_of, longest_show, output_of}

-- an image that was opened, its fabric and its pairs
pub record Opened (b : List ℕ) (f : Fabric) (pairs : List ℕ) : Type 0 where
  pub fine : image_fault b ≡ Ok tt
  pub cabling : cabled f.nodes pairs ≡ cabling_in b
  pub good : Good (cabled f.nodes pairs)
  pub fabric : f ≡ fabric_of (cabled f.nodes pairs)

pub opened : (b : List ℕ) {m : Result Fabric Refusal} {f : Fabric} {pairs : List ℕ} → m ≡ made_by (image_fault b) (cabling_in b) → m ≡ Ok f → pairs ≡ pairs_in b → Opened b f pairs
opened b e is p =
    let (fine, made) = fine-made (cabling_in b) e is in
    let (g, h) = full-asks (cabling_in b) made (accepted-good b fine) p in
    record { fine = fine; cabling = cabling_of (cabling_in b) made p; good = g; fabric = h }

pub report-writes : {b : List ℕ} {f : Fabric} {pairs before : List ℕ} {p : Page} → Opened b f pairs → Lays before p (report_of (cabled f.nodes pairs))
    → Writes (image_fault b) (report_of (cabling_in b)) before (Ok p.at) p.bytes
report-writes o l = fine-writes o.fine (ap report_of o.cabling) (lays-writes l)

-- RULES 10.1: "On a refusal it prints only `refused`, number, place."
pub shown_refused : (b : List ℕ) {m : Result Fabric Refusal} → m ≡ made_by (image_fault b) (cabling_in b) → {before after : List ℕ} {r : Refusal} {answer : Written}
    → longest_show ≤ length before → m ≡ Err r → Writes (room_for longest_refusal before) (refusal_line r) before answer after
    → Writes (room_for longest_show before) (output_of b) before answer after
unfolding output_of
shown_refused b e room v w = fault-prints (report_of (cabling_in b)) room (fault-made (cabling_in b) e v) (lit≤ tt) w

pub shown_report : {b : List ℕ} {f : Fabric} {pairs before : List ℕ} {p : Page} → longest_show ≤ length before → Opened b f pairs
    → Lays before p (report_of (cabled f.nodes pairs)) → Writes (room_for longest_show before) (output_of b) before (Ok p.at) p.bytes
unfolding output_of
shown_report {b} room o l = lays-prints (report_of (cabling_in b)) room o.fine (lays_as l (ap report_of o.cabling))

-- a refusal that is answered is the image's
pub refused-as : {v : Verdict} {q : Refusal} {answer : Written} → v ≡ Err q → answer ≡ Err q → (r : Refusal) → answer ≡ Err r → v ≡ Err r
refused-as {q = q} fault e r is = let same : q ≡ r = cc in fault ∙ ap Err same

-- what is told of a call that writes the report
pub show_prints : (b : List ℕ) {before after last : List ℕ} {x answer : Written} → longest_show ≤ length before → ((r : Refusal) → x ≡ Err r → image_fault b ≡ Err r)
    → Writes (image_fault b) (report_of (cabling_in b)) before x after → Told x after answer last → Writes (room_for longest_show before) (output_of b) before answer last
unfolding output_of
show_prints b {x = x} room refused w t = told_prints (report_of (cabling_in b)) x room (lit≤ tt) refused w t

-- RULES 10.3: "Show takes either image"
pub either_image : {c : Cabling} → Good c → (full : Bool) → output_of (image_of (kinds_of full) c) ≡ report_of c
unfolding output_of or_refused
either_image {c} g full =
    ap (λ (v : Verdict). or_refused v (report_of (cabling_in (image_of (kinds_of full) c)))) (image-accepted c g full) ∙ ap report_of (read_cabling c g full)
