-- Bodies compared one after the other with the labels and rows of a fabric.
use mathlib.Core.Path.{◌≡◌, refl, sym, ◌∙◌}
use mathlib.Core.Bool.{Bool, true, false}
use mathlib.Core.List.{List}
use Prim.Native.Nat.{ℕ}
use lib.ListN.{drop}
use Rattle.finite.specs.Truth.{◌&◌}
use Rattle.finite.specs.Lists.{alike}
use Rattle.finite.proofs.Truth.{refute, no_tf, and_l, and_r, and_true, true_and}
use Rattle.cabling.specs.Cabling.{Cabling}
use Rattle.fabric.specs.Fabric.{labels_for, rows_for}
use Rattle.format.specs.Bytes.{body_at, same_bodies}
use Rattle.image.specs.Image.{bodies_of}

module _ (b : List ℕ) (c : Cabling) where
  abbrev labels : Bool
  labels = alike (body_at b 1) (labels_for c)

  abbrev free : Bool
  free = alike (body_at b 2) (rows_for c true)

  abbrev falling : Bool
  falling = alike (body_at b 3) (rows_for c false)

  pub three-bodies : same_bodies b 1 (drop 1 (bodies_of c)) ≡ labels & free & falling & true
  unfolding same_bodies bodies_of
  three-bodies = refl

  pub labels-differ : labels ≡ false → false ≡ same_bodies b 1 (drop 1 (bodies_of c))
  labels-differ h = sym (three-bodies ∙ refute _ (λ t. no_tf (and_l _ _ t) h))

  pub free-differ : free ≡ false → false ≡ same_bodies b 1 (drop 1 (bodies_of c))
  free-differ h = sym (three-bodies ∙ refute _ (λ t. no_tf (and_l _ _ (and_r _ _ t)) h))

  pub falling_decides : labels ≡ true → free ≡ true → falling ≡ same_bodies b 1 (drop 1 (bodies_of c))
  falling_decides h k = sym (three-bodies ∙ rw (h, k) (and_true _ ∙ and_true _ ∙ true_and _))
