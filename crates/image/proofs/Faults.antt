-- The checks of an image, case by case.
use Rattle.std.specs.Prelude.{Err, Ok}
use mathlib.Core.Path.{◌≡◌, sym, ◌∙◌}
use mathlib.Core.Bool.{true, false}
use mathlib.Core.List.{List}
use mathlib.Core.Logic.{◌⊎◌}
use Prim.Native.Nat.{ℕ, ◌<◌}
use native.Mathlib.Omega.{arith}
use lib.ListN.{drop}
use Rattle.finite.specs.Truth.{same}
use Rattle.finite.proofs.Truth.{bcase, refute, same-eq, same-ne, eq-same, ne_same}
use Rattle.finite.proofs.Decide.{by, pass, fail}
use Rattle.nodes.specs.Limits.{max_nodes}
use Rattle.refusal.specs.declared.Refusal.TheVariants.{Contents, Count, Shape, Differs}
use Rattle.refusal.specs.Verdicts.{and_then}
use Rattle.refusal.proofs.Verdicts.{fine-fault, and_then_fine}
use Rattle.cabling.specs.Cabling.{Good}
use Rattle.cabling.specs.Faults.{fault_of}
use Rattle.cabling.specs.Verdicts.{Counted}
use Rattle.cabling.proofs.Tests.{decide_counted}
use Rattle.cabling.proofs.Meaning.{fault-fine}
use Rattle.format.specs.Contents.{in_order, links_kinds, full_kinds, nodes_in, zero_in}
use Rattle.format.specs.Bytes.{same_bodies}
use Rattle.format.proofs.Order.{in_order_one}
use Rattle.image.specs.Image.{bodies_of, cabling_in}
use Rattle.image.specs.Faults.{front_fault, cabling_fault, tables_fault, links_fault, image_fault}

module _ (b : List ℕ) where
  -- ---- 2 and 3

  pub front-count : (nodes_in b < 2) ⊎ (max_nodes < nodes_in b) → front_fault b ≡ Err Count
  unfolding front_fault
  front-count h = rw (fail (decide_counted (nodes_in b)) h, front_fault)

  pub front_shape : Counted (nodes_in b) → (zero_in b ≡ 0 → ⊥) → front_fault b ≡ Err Shape
  unfolding front_fault
  front_shape c h = rw (pass (decide_counted (nodes_in b)) c, front_fault, ne_same h)

  pub front-fine : Counted (nodes_in b) → zero_in b ≡ 0 → front_fault b ≡ Ok tt
  unfolding front_fault
  front-fine c h = rw (pass (decide_counted (nodes_in b)) c, front_fault, eq-same h)

  -- a front without a fault has a zero byte
  pub front-zero : front_fault b ≡ Ok tt → zero_in b ≡ 0
  front-zero h =
      bcase (same (zero_in b) 0) (λ t. same-eq _ _ t)
      (λ t.
      by (decide_counted (nodes_in b)) (λ c. fine-fault h (front_shape c (same-ne _ _ t)))
      (λ c. fine-fault h (front-count c)))

  -- a cabling without a fault is good, and its second byte is zero
  pub cabling-good : cabling_fault b ≡ Ok tt → Good (cabling_in b) × (zero_in b ≡ 0)
  cabling-good h = let (f, c) = and_then_fine (front_fault b) (fault_of (cabling_in b)) h in ((fault-fine (cabling_in b)).0 c, front-zero f)

  -- ---- 8, 1, and the order of all

  pub tables-fine : same_bodies b 1 (drop 1 (bodies_of (cabling_in b))) ≡ true → tables_fault b ≡ Ok tt
  unfolding tables_fault
  tables-fine h = rw (h, tables_fault)

  pub tables-differ : same_bodies b 1 (drop 1 (bodies_of (cabling_in b))) ≡ false → tables_fault b ≡ Err Differs
  unfolding tables_fault
  tables-differ h = rw (h, tables_fault)

  pub tables-same : tables_fault b ≡ Ok tt → same_bodies b 1 (drop 1 (bodies_of (cabling_in b))) ≡ true
  tables-same h = bcase (same_bodies b 1 (drop 1 (bodies_of (cabling_in b)))) (λ t. t) (λ f. fine-fault h (tables-differ f))

  pub links-ordered : in_order b links_kinds ≡ true → links_fault b ≡ cabling_fault b
  unfolding links_fault
  links-ordered h = rw (h, links_fault)

  pub links-broken : in_order b links_kinds ≡ false → links_fault b ≡ Err Contents
  unfolding links_fault
  links-broken h = rw (h, links_fault)

  pub image-full : in_order b full_kinds ≡ true → image_fault b ≡ and_then (cabling_fault b) (tables_fault b)
  unfolding image_fault
  image-full h = rw (h, image_fault)

  pub image-links : in_order b full_kinds ≡ false → image_fault b ≡ links_fault b
  unfolding image_fault
  image-links h = rw (h, image_fault)

  -- no image has the contents of both
  pub not-both : in_order b links_kinds ≡ true → in_order b full_kinds ≡ false
  not-both l = refute _ (λ t. let e = in_order_one b links_kinds full_kinds l t in absurd (omega arith))

  pub image-ordered : in_order b links_kinds ≡ true → image_fault b ≡ cabling_fault b
  image-ordered l = image-links (not-both l) ∙ links-ordered l

  -- what a fine verdict says
  pub links-fine : links_fault b ≡ Ok tt → (in_order b links_kinds ≡ true) × (cabling_fault b ≡ Ok tt)
  links-fine h =
      bcase (in_order b links_kinds) (λ t. (t, sym (links-ordered t) ∙ h)) (λ t. fine-fault h (links-broken t))
