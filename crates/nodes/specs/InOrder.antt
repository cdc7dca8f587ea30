-- A walk over the members of a set.
use Rattle.std.specs.Prelude.{◌≡◌, ◌≢◌, ℕ, Option, MatchOption}
use Rattle.finite.specs.Search.{least}
use Rattle.finite.specs.Sets.{has, set_of, without}
use Rattle.nodes.specs.Limits.{max_nodes}
use Rattle.nodes.specs.Members.{members}

-- one step: no member where none is left, else the lowest, and the others are left
abbrev pub PassesLowest : ℕ → Option ℕ → ℕ → Type 0
PassesLowest left r next =
    MatchOption r ((members left ≡ 0) × (members next ≡ 0))
    (λ v. (members left ≢ 0) × (v ≡ least max_nodes (has (members left))) × (members next ≡ set_of max_nodes (without (has (members left)) v)))
