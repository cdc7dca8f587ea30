-- Paths as lists of nodes: what a reader believes. A path from v is v and the list of the nodes after it; its hops are as many as those.
use Rattle.std.specs.Prelude.{◌≡◌, Bool, true, List, [], ◌∷◌, ℕ, ◌≤◌, length}
use Rattle.finite.specs.Truth.{◌&◌, non, same}
use Rattle.lawful.specs.Turn.{falls, prohibited}

-- the next node is not the one just left
abbrev pub onward : ℕ → List ℕ → Bool
onward a [] = true
onward a (c ∷ l) = non (same a c)

-- RULES 4.5: "A path goes from neighbour to neighbour and takes no step straight back."
abbrev pub is_path : (ℕ → ℕ → Bool) → ℕ → List ℕ → Bool
is_path edge v [] = true
is_path edge v (u ∷ l) = edge v u & onward v l & is_path edge u l

-- the turn at a, if the path goes on from there, is not prohibited
abbrev pub permitted : (ℕ → ℕ) → ℕ → ℕ → List ℕ → Bool
permitted label b a [] = true
permitted label b a (c ∷ l) = non (prohibited label b a c)

-- RULES 4.5: "It is lawful exactly when it has no prohibited turn"
abbrev pub is_lawful : (ℕ → ℕ) → ℕ → List ℕ → Bool
is_lawful label v [] = true
is_lawful label v (u ∷ l) = permitted label v u l & is_lawful label u l

-- every hop falls
abbrev pub all_fall : (ℕ → ℕ → Bool) → (ℕ → ℕ) → ℕ → List ℕ → Bool
all_fall edge label v [] = true
all_fall edge label v (u ∷ l) = falls edge label v u & all_fall edge label u l

-- the node at the end
abbrev pub last_of : ℕ → List ℕ → ℕ
last_of v [] = v
last_of v (u ∷ l) = last_of u l

-- l leads from v to t on a lawful path; on a path of falls only
pub record LawfulTo (edge : ℕ → ℕ → Bool) (label : ℕ → ℕ) (v t : ℕ) (l : List ℕ) : Type 0 where
  pub path : is_path edge v l ≡ true
  pub lawful : is_lawful label v l ≡ true
  pub arrives : last_of v l ≡ t

pub record FallsTo (edge : ℕ → ℕ → Bool) (label : ℕ → ℕ) (v t : ℕ) (l : List ℕ) : Type 0 where
  pub path : is_path edge v l ≡ true
  pub falling : all_fall edge label v l ≡ true
  pub arrives : last_of v l ≡ t

-- l is a shortest of the lists that pass P
pub record Shortest (P : List ℕ → Type 0) (l : List ℕ) : Type 0 where
  pub is : P l
  pub least : (m : List ℕ) → P m → length l ≤ length m

-- RULES 5.2: "the first node after v on a shortest [..] path [..], the lowest number where several begin one"
pub record Begins (P : List ℕ → Type 0) (u : ℕ) : Type 0 where
  pub rest : List ℕ
  pub shortest : Shortest P (u ∷ rest)
  pub lowest : (w : ℕ) (m : List ℕ) → Shortest P (w ∷ m) → u ≤ w
