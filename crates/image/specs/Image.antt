-- The image of a cabling: its bodies, and their bytes.
use Rattle.std.specs.Prelude.{Bool, true, false, List, [], ◌∷◌, ℕ, take}
use Rattle.cabling.specs.Cabling.{Cabling, cabled}
use Rattle.fabric.specs.Fabric.{labels_for, rows_for}
use Rattle.format.specs.Contents.{links_kinds, full_kinds, nodes_in, pairs_in}
use Rattle.format.specs.Bytes.{image_from}

-- RULES 6.2: "N, a zero byte, then the pairs of bytes [..] the label of each node [..] the free rows, N × N bytes [..] the falling rows, N × N bytes"
unfoldable pub bodies_of : Cabling → List (List ℕ)
bodies_of c = (c.nodes ∷ 0 ∷ c.pairs) ∷ labels_for c ∷ rows_for c true ∷ rows_for c false ∷ []

-- the image with the first k kinds
unfoldable pub image_of : ℕ → Cabling → List ℕ
image_of k c = image_from (take k (bodies_of c))

-- RULES 6.1: "A links image has kind 1 alone; a full image has kinds 1, 2, 3, 4, in this order."
abbrev pub kinds_of : Bool → ℕ
kinds_of true = full_kinds
kinds_of false = links_kinds

-- the cabling that kind 1 of an image holds
abbrev pub cabling_in : List ℕ → Cabling
cabling_in b = cabled (nodes_in b) (pairs_in b)
