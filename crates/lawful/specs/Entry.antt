-- The entries of the two tables, as they are computed: backwards from the destination t, in layers. Free is the class `true`, falling `false`.
use Rattle.std.specs.Prelude.{Bool, true, false, List, [], ◌∷◌, ℕ, zero, suc, ◌+◌}
use Rattle.finite.specs.Truth.{◌&◌, ◌or◌, same, below}
use Rattle.finite.specs.Search.{any, least}
use Rattle.finite.specs.Sets.{has, set_of}
use Rattle.lawful.specs.Turn.{rises, falls}

-- the nodes from which a free message, and those from which a falling one, is within some number of hops of t
pub record Layer : Type 0 where
  pub free : ℕ
  pub fall : ℕ

-- a hop from v to u in this class leads into the layer: a free message may rise and stays free then, either may fall and is falling then
unfoldable pub leads : (ℕ → ℕ → Bool) → (ℕ → ℕ) → Layer → Bool → ℕ → ℕ → Bool
leads edge label s class v u = class & rises edge label v u & has s.free u or falls edge label v u & has s.fall u

-- the nodes of the set, and those with a hop that leads into the layer
unfoldable pub joining : ℕ → (ℕ → ℕ → Bool) → (ℕ → ℕ) → Layer → Bool → ℕ → ℕ
joining n edge label s class w = set_of n (λ v. has w v or any n (leads edge label s class v))

unfoldable pub layer : ℕ → (ℕ → ℕ → Bool) → (ℕ → ℕ) → ℕ → ℕ → Layer
layer n edge label t zero = record { free = set_of n (same t); fall = set_of n (same t) }
layer n edge label t (suc k) =
    let s : Layer = layer n edge label t k in
    record { free = joining n edge label s true s.free; fall = joining n edge label s false s.fall }

-- the lowest node to which a hop from v leads into the layer; n where there is none
unfoldable pub lowest_lead : ℕ → (ℕ → ℕ → Bool) → (ℕ → ℕ) → Layer → Bool → ℕ → ℕ
lowest_lead n edge label s class v = least n (leads edge label s class v)

-- the first layer into which some hop from v leads; 2 n where there is none
unfoldable pub first_layer : ℕ → (ℕ → ℕ → Bool) → (ℕ → ℕ) → ℕ → Bool → ℕ → ℕ
first_layer n edge label t class v = least (n + n) (λ k. any n (leads edge label (layer n edge label t k) class v))

-- RULES 5.3: "255 exactly when there is none"
abbrev pub none : ℕ
none = 255

-- RULES 5.2: "For t = v it is v."; else the lowest node that begins a shortest way
unfoldable pub entry : ℕ → (ℕ → ℕ → Bool) → (ℕ → ℕ) → ℕ → Bool → ℕ → ℕ
entry n edge label t class v =
    elim (same v t) [
      | true ↦ v
      | false ↦
          let u : ℕ = lowest_lead n edge label (layer n edge label t (first_layer n edge label t class v)) class v in elim (below u n) [ true ↦ u | false ↦ none ]
    ]

-- the class after a hop from v to u, RULES 5.1: "It starts free and becomes falling with its first fall."
unfoldable pub free_after : (ℕ → ℕ → Bool) → (ℕ → ℕ) → Bool → ℕ → ℕ → Bool
free_after edge label class v u = class & rises edge label v u

-- the nodes after v on the route that follows the entries `next class v`, k hops at the most
unfoldable pub follow : (ℕ → ℕ → Bool) → (ℕ → ℕ) → (Bool → ℕ → ℕ) → ℕ → ℕ → Bool → ℕ → List ℕ
follow edge label next t zero class v = []
follow edge label next t (suc k) class v =
    elim (same v t) [
      | true ↦ []
      | false ↦ let u : ℕ = next class v in u ∷ follow edge label next t k (free_after edge label class v u) u
    ]

-- the route of a free message from v to t
unfoldable pub route_of : ℕ → (ℕ → ℕ → Bool) → (ℕ → ℕ) → ℕ → ℕ → List ℕ
route_of n edge label v t = follow edge label (entry n edge label t) t (n + n) true v
