-- The front of an image, before the bodies of kinds 2 and on. Only the contracts of private functions cite these.
use Rattle.std.specs.Prelude.{List, [], ◌∷◌, ◌++◌, ℕ, ◌+◌, ◌*◌, length}
use Rattle.format.specs.Bytes.{entries_of}

-- the contents of an image whose bodies have these sizes
unfoldable pub head_of : List ℕ → List ℕ
head_of sizes = 1 ∷ length sizes ∷ entries_of 1 (2 + 6 * length sizes) sizes

-- and its kind 1
abbrev pub front_of : List ℕ → ℕ → List ℕ → List ℕ
front_of sizes n pairs = (head_of sizes ++ (n ∷ 0 ∷ [])) ++ pairs
