-- Sentences about cable and sheet: a good cabling is refused by neither but for want of room, both ways round the same bytes come out, a cabling has one
-- sheet, how long it may be, and 9 is given exactly when.
use Rattle.std.specs.Prelude.{Err, Ok}
use mathlib.Core.Path.{◌≡◌, sym, ◌∙◌, ap}
use mathlib.Core.Bool.{false}
use mathlib.Core.List.{List}
use mathlib.Core.Logic.{◌↔◌}
use Prim.Native.Nat.{ℕ, ◌≤◌, ◌<◌}
use native.Mathlib.Omega.{arith}
use lib.ListN.{length, take}
use Rattle.refusal.specs.declared.Refusal.TheVariants.{Short}
use Rattle.cabling.specs.Cabling.{Cabling, Good}
use Rattle.format.specs.Contents.{links_kinds}
use Rattle.results.specs.Written.{placed, written_of, Written}
use Rattle.results.proofs.Meaning.{not-refused, written-front, written-size, short_means}
use Rattle.results.proofs.Placed.{written-whole}
use Rattle.image.specs.Image.{image_of, cabling_in}
use Rattle.image.specs.Faults.{links_fault}
use Rattle.image.proofs.Images.{read_cabling, links-accepted, accepted-links}
use Rattle.image.proofs.Meaning.{links-not-short}
use Rattle.sheets.specs.Sheet.{sheet_of, cabling_on}
use Rattle.sheets.specs.Faults.{sheet_fault}
use Rattle.sheets.specs.Promises.{Cables, Sheets}
use Rattle.sheets.proofs.Sheets.{good_tellable, sheet-cabling, sheet-accepted, accepted-sheet, accepted-size}
use Rattle.sheets.proofs.Printing.{sheet-size}
use Rattle.sheets.proofs.Meaning.{sheet-not-short}

module _ {c : Cabling} (g : Good c) {before after : List ℕ} {r : Written} where
  -- RULES 7.7: "Cable takes a sheet and writes the links image of its cabling."
  pub cable_never_refused : length (image_of links_kinds c) ≤ length before
      → Cables (sheet_of c) before r after
      → (r ≡ Ok (length (image_of links_kinds c))) × (after ≡ placed (image_of links_kinds c) before)
  cable_never_refused h w = written-whole (sheet-accepted g) h (rw (sheet-cabling (good_tellable g)) at w)

  -- RULES 7.7: "Sheet takes a links image and writes its sheet."
  pub sheet-never-refused : length (sheet_of c) ≤ length before → Sheets (image_of links_kinds c) before r after
      → (r ≡ Ok (length (sheet_of c))) × (after ≡ placed (sheet_of c) before)
  sheet-never-refused h w = written-whole (links-accepted c g) h (rw (read_cabling c g false) at w.writes)

-- what it wrote is the image of a good cabling, and the sheet is that cabling's
pub cabled-sheet : (s before after : List ℕ) (m : ℕ) → Cables s before (Ok m) after → Good (cabling_on s) × (s ≡ sheet_of (cabling_on s)) × (take m after ≡ image_of links_kinds (cabling_on s))
cabled-sheet s before after m w =
    let (g, e) = accepted-sheet s (not-refused _ (length before) (sheet_fault s) m (sym w.answers)) in
    (g, e, (written-front _ before after (sheet_fault s) m w).0)

-- ---- RULES 2.2: "From a sheet to its links image and back, and from a links image to its sheet and back, the same bytes come out."

pub sheet-again : (s before after : List ℕ) (m : ℕ) → Cables s before (Ok m) after
    → {room left : List ℕ} {r : Written} → length s ≤ length room → Sheets (take m after) room r left → (r ≡ Ok (length s)) × (left ≡ placed s room)
sheet-again s before after m w {room} {left} {r} h x =
    let (g, e, front) = cabled-sheet s before after m w in
    let y : Sheets (image_of links_kinds (cabling_on s)) room r left = rw front at x in
    let z = sheet-never-refused g (rw (← e) h) y in
    rw (← e) at z

pub image-again : (b before after : List ℕ) (m : ℕ) → Sheets b before (Ok m) after
    → {room left : List ℕ} {r : Written} → length b ≤ length room
    → Cables (take m after) room r left → (r ≡ Ok (length b)) × (left ≡ placed b room)
image-again b before after m w {room} {left} {r} h x =
    let fine = not-refused _ (length before) (links_fault b) m (sym w.writes.answers) in
    let (g, e) = accepted-links b w.bytes fine in
    let front = (written-front _ before after (links_fault b) m w.writes).0 in
    let y : Cables (sheet_of (cabling_in b)) room r left = rw front at x in
    let z = cable_never_refused g (rw (← e) h) y in
    rw (← e) at z

-- ---- RULES 2.2: "Every accepted cabling has exactly one sheet.": what cable makes the same image of is the same

pub one-sheet : (s t before after room left : List ℕ) (m n : ℕ) → Cables s before (Ok m) after → Cables t room (Ok n) left → take m after ≡ take n left → s ≡ t
one-sheet s t before after room left m n w x e =
    let (g, own, front) = cabled-sheet s before after m w in
    let (h, other, also) = cabled-sheet t room left n x in
    let same : cabling_on s ≡ cabling_on t = sym (read_cabling (cabling_on s) g false) ∙ ap cabling_in (sym front ∙ e ∙ also) ∙ read_cabling (cabling_on t) h false in
    own ∙ ap sheet_of same ∙ sym other

-- ---- RULES 6.5: "A sheet has at most 3,075 bytes."

pub cable_size : (s before after : List ℕ) (m : ℕ) → Cables s before (Ok m) after → length s ≤ 3075
cable_size s before after m w = let l = accepted-size s (not-refused _ (length before) (sheet_fault s) m (sym w.answers)) in omega arith

pub sheet-written-size : (b before after : List ℕ) (m : ℕ) → Sheets b before (Ok m) after → m ≤ 3075
sheet-written-size b before after m w =
    let fine = not-refused _ (length before) (links_fault b) m (sym w.writes.answers) in
    let l = sheet-size (accepted-links b w.bytes fine).0 in
    let e = (written-size _ (length before) (links_fault b) m (sym w.writes.answers)).0 in
    omega arith

-- ---- 9, RULES 9.1, "given exactly when": the verdict is fine and the result is longer than the buffer

pub cable_short : (s : List ℕ) (room : ℕ)
    → (written_of (sheet_fault s) (image_of links_kinds (cabling_on s)) room ≡ Err Short) ↔ ((sheet_fault s ≡ Ok tt) × (room < length (image_of links_kinds (cabling_on s))))
cable_short s room = short_means _ room (sheet_fault s) (sheet-not-short s)

pub sheet-short : (b : List ℕ) (room : ℕ)
    → (written_of (links_fault b) (sheet_of (cabling_in b)) room ≡ Err Short) ↔ ((links_fault b ≡ Ok tt) × (room < length (sheet_of (cabling_in b))))
sheet-short b room = short_means _ room (links_fault b) (links-not-short b)
