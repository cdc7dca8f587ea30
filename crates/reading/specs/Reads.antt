-- What read answers, and what it leaves in the lent buffer.
use Rattle.std.specs.Prelude.{◌≡◌, Bool, List, ℕ, ◌/◌, length, Result, Ok, Err}
use Rattle.refusal.specs.declared.Refusal.{Refusal}
use Rattle.format.specs.Contents.{in_order, full_kinds, nodes_in, pairs_in}
use Rattle.format.specs.Bytes.{AllBytes}
use Rattle.results.specs.Written.{written_of, written_into, Written}
use Rattle.image.specs.Faults.{image_fault}
use Rattle.reading.specs.declared.Summary.{Summary}

-- N, M and whether it was a full image, or the refusal
abbrev pub Outcome : Type 0
Outcome = Result Summary Refusal

abbrev pub read_as : ℕ → ℕ → Bool → Outcome
read_as n m full = Ok (record { nodes = n; links = m; full = full })

-- RULES 7.2: "Read takes either image, answers N, M and which image it was, and writes the pairs."
abbrev pub outcome_of : List ℕ → Written → Outcome
outcome_of b (Ok m) = read_as (nodes_in b) (m / 2) (in_order b full_kinds)
outcome_of b (Err r) = Err r

pub record Reads (b before : List ℕ) (answer : Outcome) (after : List ℕ) : Type 0 where
  pub answers : answer ≡ outcome_of b (written_of (image_fault b) (pairs_in b) (length before))
  pub leaves : after ≡ written_into (image_fault b) (pairs_in b) before
  pub bytes : AllBytes b
