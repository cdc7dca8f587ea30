-- Images in whole: how long they are, that what is written is read back, and that only such images are accepted.
use Rattle.std.specs.Prelude.{Ok}
use mathlib.Core.Path.{◌≡◌, sym, ◌∙◌, ap, ap₂}
use mathlib.Core.Bool.{Bool, true, false}
use mathlib.Core.List.{List, [], ◌∷◌}
use mathlib.Core.Logic.{◌↔◌}
use Prim.Native.Nat.{ℕ, ◌*◌, ◌≤◌}
use native.Mathlib.Omega.{arith}
use lib.ListN.{length, drop}
use Rattle.finite.proofs.Truth.{bcase}
use Rattle.nodes.specs.Limits.{max_nodes, max_links}
use Rattle.refusal.proofs.Verdicts.{then-fine, and_then_fine}
use Rattle.cabling.specs.Cabling.{Cabling, cabled, Good}
use Rattle.cabling.specs.Faults.{fault_of}
use Rattle.cabling.proofs.Meaning.{fault-fine}
use Rattle.fabric.specs.Fabric.{labels_for, rows_for}
use Rattle.rows.proofs.Grid.{square_le}
use Rattle.format.specs.Limits.{max_image}
use Rattle.format.specs.Contents.{in_order, links_kinds, full_kinds, nodes_in, zero_in, pairs_in}
use Rattle.format.specs.Bytes.{AllBytes, image_from, bodies_from}
use Rattle.format.proofs.Written.{from_in_order, from-bodies}
use Rattle.format.proofs.Bodies.{same-bodies-iff}
use Rattle.format.proofs.First.{in_order_image, from-nodes, from_zero, from-pairs}
use Rattle.image.specs.Longest.{longest_image, longest_links}
use Rattle.image.specs.Image.{bodies_of, image_of, kinds_of, cabling_in}
use Rattle.image.specs.Faults.{cabling_fault, tables_fault, links_fault, image_fault}
use Rattle.image.proofs.Sizes.{links-size, full_size}
use Rattle.image.proofs.Faults.{front-fine, cabling-good, tables-fine, tables-same, links-ordered, links-fine, image-full, image-links, image-ordered, not-both}

-- ---- how long they are

-- that of the most nodes and links
pub largest : (pairs : List ℕ) → length pairs ≡ 2 * max_links → length (image_of full_kinds (cabled max_nodes pairs)) ≡ longest_image
largest pairs e = let s = full_size (cabled max_nodes pairs) in omega arith

-- and no image of a good cabling is longer
pub image-size : (full : Bool) (c : Cabling) → Good c → length (image_of (kinds_of full) c) ≤ longest_image
image-size true c g =
    let few = g.few in
    let short = g.short in
    let s = full_size c in
    let q = square_le c.nodes few in
    omega arith
image-size false c g = let short = g.short in let s = links-size c in omega arith

pub links-fit : (c : Cabling) → Good c → length (image_of links_kinds c) ≤ longest_links
links-fit c g = let short = g.short in let s = links-size c in omega arith

-- ---- what is written is read back

-- the bodies behind kind 1
abbrev pub table_bodies : Cabling → List (List ℕ)
table_bodies c = labels_for c ∷ rows_for c true ∷ rows_for c false ∷ []

module _ (c : Cabling) (g : Good c) where
  small : (full : Bool) → length (image_of (kinds_of full) c) ≤ max_image
  small full = let s = image-size full c g in omega arith

  -- the kinds of each image
  links-kinds : in_order (image_of links_kinds c) links_kinds ≡ true
  unfolding image_of bodies_of
  links-kinds = from_in_order (c.nodes ∷ 0 ∷ c.pairs) [] (small false) (omega arith)

  full-kinds : in_order (image_of full_kinds c) full_kinds ≡ true
  unfolding image_of bodies_of
  full-kinds = from_in_order (c.nodes ∷ 0 ∷ c.pairs) (table_bodies c) (small true) (omega arith)

  pub read_kind : (full : Bool) → in_order (image_of (kinds_of full) c) full_kinds ≡ full
  read_kind true = full-kinds
  read_kind false = not-both _ links-kinds

  -- the cabling, and the zero byte
  pub read_cabling : (full : Bool) → cabling_in (image_of (kinds_of full) c) ≡ c
  unfolding image_of bodies_of
  read_cabling true = ap₂ cabled (from-nodes c.nodes 0 c.pairs (table_bodies c) (small true)) (from-pairs c.nodes 0 c.pairs (table_bodies c) (small true))
  read_cabling false = ap₂ cabled (from-nodes c.nodes 0 c.pairs [] (small false)) (from-pairs c.nodes 0 c.pairs [] (small false))

  read_zero : (full : Bool) → zero_in (image_of (kinds_of full) c) ≡ 0
  unfolding image_of bodies_of
  read_zero true = from_zero c.nodes 0 c.pairs (table_bodies c) (small true)
  read_zero false = from_zero c.nodes 0 c.pairs [] (small false)

  -- it has no fault
  cabling-accepted : (full : Bool) → cabling_fault (image_of (kinds_of full) c) ≡ Ok tt
  cabling-accepted full =
      let e = ap (λ (x : Cabling). x.nodes) (read_cabling full) in
      let many = g.many in
      let few = g.few in
      then-fine _ (front-fine _ (omega arith, omega arith) (read_zero full)) ∙ ap fault_of (read_cabling full) ∙ (fault-fine c).1 g

  -- the bodies of a full one
  pub full-bodies : bodies_from (image_of full_kinds c) 0 full_kinds ≡ bodies_of c
  unfolding image_of bodies_of
  full-bodies = from-bodies (c.nodes ∷ 0 ∷ c.pairs) (table_bodies c) (small true)

  tables-back : bodies_from (image_of full_kinds c) 1 3 ≡ table_bodies c
  unfolding bodies_of bodies_from
  tables-back = ap (drop 1) full-bodies

  tables-accepted : tables_fault (image_of full_kinds c) ≡ Ok tt
  unfolding bodies_of
  tables-accepted =
      let e : drop 1 (bodies_of (cabling_in (image_of full_kinds c))) ≡ table_bodies c = ap (λ (x : Cabling). drop 1 (bodies_of x)) (read_cabling true) in
      tables-fine _ (rw e ((same-bodies-iff (image_of full_kinds c) 1 (table_bodies c)).1 tables-back))

  pub links-accepted : links_fault (image_of links_kinds c) ≡ Ok tt
  links-accepted = links-ordered _ links-kinds ∙ cabling-accepted false

  pub image-accepted : (full : Bool) → image_fault (image_of (kinds_of full) c) ≡ Ok tt
  image-accepted true = image-full _ full-kinds ∙ then-fine _ (cabling-accepted true) ∙ tables-accepted
  image-accepted false = image-ordered _ links-kinds ∙ cabling-accepted false

-- ---- only such images are accepted

-- what is accepted has a good cabling and a zero byte
accepted-front : (b : List ℕ) → image_fault b ≡ Ok tt → Good (cabling_in b) × (zero_in b ≡ 0)
accepted-front b h =
    bcase (in_order b full_kinds) (λ t. cabling-good b (and_then_fine _ _ (sym (image-full b t) ∙ h)).0)
    (λ t. cabling-good b (links-fine b (sym (image-links b t) ∙ h)).1)

pub accepted-good : (b : List ℕ) → image_fault b ≡ Ok tt → Good (cabling_in b)
accepted-good b h = (accepted-front b h).0

-- the bytes of an image in order, from its cabling and its other bodies
links-same : (b : List ℕ) → AllBytes b → in_order b links_kinds ≡ true → zero_in b ≡ 0 → b ≡ image_of links_kinds (cabling_in b)
unfolding image_of bodies_of bodies_from
links-same b byte h z = in_order_image b 0 byte h ∙ ap (λ (x : ℕ). image_from ((nodes_in b ∷ x ∷ pairs_in b) ∷ [])) z

pub full-same : (b : List ℕ) → AllBytes b → in_order b full_kinds ≡ true → zero_in b ≡ 0 → bodies_from b 1 3 ≡ table_bodies (cabling_in b) → b ≡ image_of full_kinds (cabling_in b)
unfolding image_of bodies_of
full-same b byte h z e =
    in_order_image b 3 byte h ∙ ap₂ (λ (x : ℕ) (t : List (List ℕ)). image_from ((nodes_in b ∷ x ∷ pairs_in b) ∷ t)) z e

-- writing what was read gives back the same bytes
pub accepted : (b : List ℕ) → AllBytes b → image_fault b ≡ Ok tt → b ≡ image_of (kinds_of (in_order b full_kinds)) (cabling_in b)
unfolding bodies_of
accepted b byte h =
    let z = (accepted-front b h).1 in
    bcase (in_order b full_kinds)
    (λ t.
    let d = (and_then_fine _ _ (sym (image-full b t) ∙ h)).1 in
    rw t (full-same b byte t z ((same-bodies-iff b 1 (table_bodies (cabling_in b))).0 (tables-same b d))))
    (λ t. rw t (links-same b byte (links-fine b (sym (image-links b t) ∙ h)).0 z))

-- and of a links image alone
pub accepted-links : (b : List ℕ) → AllBytes b → links_fault b ≡ Ok tt → Good (cabling_in b) × (b ≡ image_of links_kinds (cabling_in b))
accepted-links b byte h =
    let (order, cabling) = links-fine b h in
    let (g, z) = cabling-good b cabling in
    (g, links-same b byte order z)

-- an image is accepted exactly when it is that of a good cabling, full or links only
pub accepted_exactly : (b : List ℕ) → AllBytes b → (image_fault b ≡ Ok tt) ↔ ((full : Bool) × (c : Cabling) × Good c × (b ≡ image_of (kinds_of full) c))
accepted_exactly b byte = (
  λ h. (in_order b full_kinds, cabling_in b, accepted-good b h, accepted b byte h),
  λ s. let (full, c, g, e) = s in ap image_fault e ∙ image-accepted c g full,
)
