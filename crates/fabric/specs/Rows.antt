-- RULES 5 in words: what a whole table of one class is. P v t l says that l leads from v to t: lawfully, or by falls only.
use Rattle.std.specs.Prelude.{◌≡◌, List, ℕ, ◌+◌, ◌*◌, ◌<◌, length, get_or}
use Rattle.lawful.specs.Path.{LawfulTo, FallsTo, Begins}
use Rattle.lawful.specs.Entry.{none}
use Rattle.cabling.specs.Cabling.{Cabling, links}
use Rattle.fabric.specs.Fabric.{label_for}

pub record RowsBy (n : ℕ) (P : ℕ → ℕ → List ℕ → Type 0) (table : List ℕ) : Type 0 where
  -- RULES 6.2: "N × N bytes"
  pub size : length table ≡ n * n
  -- RULES 5.2: "For t = v it is v."
  pub self : (v : ℕ) → v < n → get_or table (v * n + v) 0 ≡ v
  -- RULES 5.2: "the first node after v on a shortest [..] path from v to t, the lowest number where several begin one"
  pub begins : (v t : ℕ) → v < n → t < n → (v ≡ t → ⊥) → (l : List ℕ) → P v t l → Begins (P v t) (get_or table (v * n + t) 0)
  -- RULES 5.3: "255 exactly when there is none"
  pub missing : (v t : ℕ) → v < n → t < n → ((l : List ℕ) → P v t l → ⊥) → get_or table (v * n + t) 0 ≡ none
  pub found : (v t : ℕ) → v < n → t < n → (l : List ℕ) → P v t l → get_or table (v * n + t) 0 < n

-- RULES 5.2: "The free entry of node v for destination t is the first node after v on a shortest lawful path"
abbrev pub FreeRows : Cabling → List ℕ → Type 0
FreeRows c = RowsBy c.nodes (LawfulTo (links c) (label_for c))

-- RULES 5.3: "The falling entry is the same over paths of falls only"
abbrev pub FallingRows : Cabling → List ℕ → Type 0
FallingRows c = RowsBy c.nodes (FallsTo (links c) (label_for c))
