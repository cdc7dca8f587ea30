-- The verdicts on an image. The order of refusals: 1, 2, 3; then the first bad pair; 6, 7, 8.
use Rattle.std.specs.Prelude.{true, false, List, ℕ, drop, Err, Ok}
use Rattle.finite.specs.Truth.{same}
use Rattle.refusal.specs.declared.Refusal.TheVariants.{Contents, Count, Shape, Differs}
use Rattle.refusal.specs.Verdicts.{and_then, Verdict}
use Rattle.cabling.specs.Faults.{is_counted, fault_of}
use Rattle.format.specs.Contents.{in_order, links_kinds, full_kinds, nodes_in, zero_in}
use Rattle.format.specs.Bytes.{same_bodies}
use Rattle.image.specs.Image.{bodies_of, cabling_in}

-- 2 and 3 of the first two bytes of kind 1, RULES 9.1: "N not 2 to 64"; "second byte of kind 1 not zero"
unfoldable pub front_fault : List ℕ → Verdict
front_fault b = elim (is_counted (nodes_in b)) [ false ↦ Err Count | true ↦ elim (same (zero_in b) 0) [ false ↦ Err Shape | true ↦ Ok tt ] ]

-- 2 to 7: what kind 1 holds
abbrev pub cabling_fault : List ℕ → Verdict
cabling_fault b = and_then (front_fault b) (fault_of (cabling_in b))

-- 8, RULES 9.1: "kind 2, 3 or 4 differs, in length or bytes, from what the rules give"
unfoldable pub tables_fault : List ℕ → Verdict
tables_fault b = elim (same_bodies b 1 (drop 1 (bodies_of (cabling_in b)))) [ true ↦ Ok tt | false ↦ Err Differs ]

-- 1 to 7 of a links image alone, and 1 to 8 of either image
unfoldable pub links_fault : List ℕ → Verdict
links_fault b = elim (in_order b links_kinds) [ true ↦ cabling_fault b | false ↦ Err Contents ]

unfoldable pub image_fault : List ℕ → Verdict
image_fault b = elim (in_order b full_kinds) [ true ↦ and_then (cabling_fault b) (tables_fault b) | false ↦ links_fault b ]
