-- RULES 4.1: stages run on the remaining graph, and labels 1, 2, .. are given in order. The state is the list of the labels so far.
use Rattle.std.specs.Prelude.{◌≡◌, Bool, true, false, List, ℕ, zero, suc, ◌<◌, set, replicate}
use Rattle.finite.specs.Truth.{◌&◌, same, below}
use Rattle.finite.specs.Search.{Some}
use Rattle.lawful.specs.Turn.{label_in}
use Rattle.rule.specs.Candidate.{choice, Chosen}

-- one of the first m nodes remains while it has no label
unfoldable pub remains : ℕ → List ℕ → ℕ → Bool
remains m labels v = below v m & same (label_in labels v) 0

-- node v gets label k; nothing changes for a v that is no node
unfoldable pub give : ℕ → ℕ → ℕ → List ℕ → List ℕ
give n v k labels = elim (below v n) [ true ↦ set labels v k | false ↦ labels ]

-- RULES 4.1: "the node that is chosen (4.3) gets the next label and is struck out"
unfoldable pub stage : ℕ → (ℕ → ℕ → Bool) → ℕ → ℕ → List ℕ → List ℕ
stage n edge m k labels = give n (choice n edge (remains m labels)) k labels

-- the labels of the first m of n nodes after k stages; 0 elsewhere
unfoldable pub labelled : ℕ → (ℕ → ℕ → Bool) → ℕ → ℕ → List ℕ
labelled n edge m zero = replicate n 0
labelled n edge m (suc k) = stage n edge m (suc k) (labelled n edge m k)

unfoldable pub labels_of : ℕ → (ℕ → ℕ → Bool) → ℕ → List ℕ
labels_of n edge m = labelled n edge m m

-- the nodes whose label is above k: those that remain once the labels up to k are given
unfoldable pub above : ℕ → (ℕ → ℕ) → ℕ → ℕ → Bool
above m label k v = below v m & below k (label v)

-- what RULES 4.1 says of the labels: each node has one, each of 1, 2, .. m is given, and the node with label k + 1 is the one to choose of those whose labels
-- are above k
pub record ByRule (n : ℕ) (edge : ℕ → ℕ → Bool) (m : ℕ) (label : ℕ → ℕ) : Type 0 where
  pub positive : (v : ℕ) → v < m → 0 < label v
  pub given : (k : ℕ) → k < m → Some m (λ v. same (label v) (suc k))
  pub chosen : (v k : ℕ) → v < m → label v ≡ suc k → Chosen n edge (above m label k) v
