-- The rule over the links that a table holds, whatever they are. On the table of a remaining graph these are the candidates of RULES 4.2 and the choice of
-- RULES 4.3 (proofs/Remaining.antt).
use Rattle.std.specs.Prelude.{Bool, ℕ, suc, ◌*◌, ◌-◌, leb}
use Rattle.finite.specs.Truth.{◌&◌, non}
use Rattle.finite.specs.Sum.{sum_if, count}
use Rattle.finite.specs.Search.{least_by}
use Rattle.graph.specs.Reach.{splits}

unfoldable pub room_by : ℕ → (ℕ → ℕ → Bool) → ℕ → Bool
room_by n links v = leb (count n (links v) * (count n (links v) - 1)) (sum_if n (links v) (λ u. count n (links u) - 1))

unfoldable pub candidate_by : ℕ → (ℕ → ℕ → Bool) → (ℕ → Bool) → ℕ → Bool
candidate_by n links R v = R v & room_by n links v & non (splits n links R v)

unfoldable pub choice_by : ℕ → (ℕ → ℕ → Bool) → (ℕ → Bool) → ℕ
choice_by n links R = least_by (suc n) n (λ v. count n (links v)) (candidate_by n links R)
