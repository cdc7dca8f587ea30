-- RULES 4.4 and RULES 4.5 on labels: rise, fall, prohibited turn; and the climbing labellings. A labelling is any function from nodes to numbers.
use Rattle.std.specs.Prelude.{◌≡◌, Bool, true, List, ℕ, ◌<◌, get_or}
use Rattle.finite.specs.Truth.{◌&◌, below}
use Rattle.finite.specs.Search.{Some}

-- the labels in a list: that of a node, 0 while it has none
abbrev pub label_in : List ℕ → ℕ → ℕ
label_in labels v = get_or labels v 0

-- RULES 4.5: "A hop to a higher label rises, a hop to a lower one falls."
unfoldable pub rises : (ℕ → ℕ → Bool) → (ℕ → ℕ) → ℕ → ℕ → Bool
rises edge label a b = edge a b & below (label a) (label b)

unfoldable pub falls : (ℕ → ℕ → Bool) → (ℕ → ℕ) → ℕ → ℕ → Bool
falls edge label a b = edge a b & below (label b) (label a)

-- RULES 4.4: "A turn (b, a, c) is prohibited exactly when a's label is below both others."
unfoldable pub prohibited : (ℕ → ℕ) → ℕ → ℕ → ℕ → Bool
prohibited label b a c = below (label a) (label b) & below (label a) (label c)

-- neighbours have different labels
abbrev pub Distinct : (ℕ → ℕ → Bool) → (ℕ → ℕ) → Type 0
Distinct edge label = (a b : ℕ) → edge a b ≡ true → label a ≡ label b → ⊥

-- each of the n nodes but the top one has a neighbour with a higher label
pub record Climbing (n : ℕ) (edge : ℕ → ℕ → Bool) (label : ℕ → ℕ) : Type 0 where
  pub distinct : Distinct edge label
  pub top : ℕ
  pub climbs : (v : ℕ) → v < n → (v ≡ top → ⊥) → Some n (rises edge label v)
