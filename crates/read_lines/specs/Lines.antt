-- RULES 6.5: "A line reaches up to its line feed and holds it; what stands behind the last line feed is a line that is not closed."
use Rattle.std.specs.Prelude.{◌≡◌, true, false, List, [], ◌∷◌, ◌++◌, ℕ, ◌<◌, length, get_or}
use Rattle.finite.specs.Truth.{same}

-- no line feed stands in it
abbrev pub NoFeed : List ℕ → Type 0
NoFeed l = (i : ℕ) → i < length l → get_or l i 0 ≡ 10 → ⊥

-- in words: a text and its lines
pub data Cut : List ℕ → List (List ℕ) → Type 0 where
  nothing : Cut [] []
  not-closed : {l : List ℕ} → 0 < length l → NoFeed l → Cut l (l ∷ [])
  closed : (l : List ℕ) {t : List ℕ} {ls : List (List ℕ)} → NoFeed l → Cut t ls → Cut (l ++ 10 ∷ t) ((l ++ (10 ∷ [])) ∷ ls)

-- a byte in front of the first line
unfoldable pub onto : ℕ → List (List ℕ) → List (List ℕ)
onto x [] = (x ∷ []) ∷ []
onto x (l ∷ ls) = (x ∷ l) ∷ ls

-- and computed: the lines of a text
unfoldable pub lines_of : List ℕ → List (List ℕ)
lines_of [] = []
lines_of (x ∷ s) = elim (same x 10) [ true ↦ (x ∷ []) ∷ lines_of s | false ↦ onto x (lines_of s) ]
