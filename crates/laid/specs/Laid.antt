-- Bytes laid piece by piece into a lent buffer.
use Rattle.std.specs.Prelude.{true, false, List, ℕ, ◌+◌, leb, length}
use Rattle.std.proofs.lemmas.List.Edits.{sets}

-- a lent buffer, and the place up to which it is laid
pub record Page : Type 0 where
  pub bytes : List ℕ
  pub at : ℕ

abbrev pub page : List ℕ → ℕ → Page
page bytes at = record { bytes = bytes; at = at }

-- with s behind it; as it was where s finds no room
unfoldable pub behind : Page → List ℕ → Page
behind p s =
    elim (leb (p.at + length s) (length p.bytes)) [
      | true ↦ page (sets p.bytes p.at s) (p.at + length s)
      | false ↦ p
    ]
