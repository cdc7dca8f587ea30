-- How long the two images are.
use mathlib.Core.Path.{◌≡◌}
use mathlib.Core.Bool.{Bool, true, false}
use mathlib.Core.List.{List, [], ◌∷◌}
use Prim.Native.Nat.{ℕ, ◌+◌, ◌*◌}
use native.Mathlib.Omega.{arith}
use lib.ListN.{length, length-append, length-map}
use Rattle.finite.specs.Lists.{joined_up}
use Rattle.rows.proofs.Meaning.{rows-length}
use Rattle.cabling.specs.Cabling.{Cabling, links}
use Rattle.fabric.specs.Fabric.{labels_for, label_for, rows_for}
use Rattle.fabric.proofs.Labels.{labels_length}
use Rattle.format.specs.Contents.{links_kinds, full_kinds}
use Rattle.format.specs.Bytes.{image_from}
use Rattle.format.proofs.Written.{entries-length}
use Rattle.image.specs.Image.{bodies_of, image_of}

four_size : (a b d e : List ℕ) → length (image_from (a ∷ b ∷ d ∷ e ∷ [])) ≡ 26 + length a + length b + length d + length e
unfolding image_from joined_up
four_size a b d e = simp (length-append, entries-length, length-map) (omega arith)

module _ (c : Cabling) where
  abbrev n : ℕ
  n = c.nodes

  pub rows-size : (class : Bool) → length (rows_for c class) ≡ n * n
  rows-size = rows-length n n (links c) (label_for c)

  -- RULES 6.2: "A full image has 28 + 2M + N + 2N² bytes"
  pub links-size : length (image_of links_kinds c) ≡ 10 + length c.pairs
  unfolding image_of bodies_of image_from joined_up
  links-size = simp (length-append, entries-length, length-map) (omega arith)

  pub full_size : length (image_of full_kinds c) ≡ 28 + length c.pairs + n + 2 * (n * n)
  unfolding image_of bodies_of
  full_size =
      let s = four_size (n ∷ 0 ∷ c.pairs) (labels_for c) (rows_for c true) (rows_for c false) in
      let l = labels_length c in
      let f = rows-size true in
      let g = rows-size false in
      omega arith
