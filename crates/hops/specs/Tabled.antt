-- Labels and tables of a network, at the front of three arrays: what a fabric has, and what demands 2 and 3 need of it.
use Rattle.std.specs.Prelude.{◌≡◌, Bool, true, false, List, ℕ, ◌+◌, ◌*◌, ◌≤◌, ◌<◌, length, get_or}
use Rattle.graph.specs.Network.{Network}
use Rattle.lawful.specs.Turn.{Climbing, label_in}
use Rattle.lawful.specs.Entry.{entry}
use Rattle.nodes.specs.Limits.{max_nodes}

-- RULES 5.1: "A message is free (class 0) before any fall and falling (class 1) after one."; free is `true`
abbrev pub class_of : Bool → ℕ
class_of true = 0
class_of false = 1

-- a network of n nodes with a climbing labelling, and the two tables of its entries, row by row
pub record Tabled (n : ℕ) (edge : ℕ → ℕ → Bool) (labels free falling : List ℕ) : Type 0 where
  pub least : 2 ≤ n
  pub most : n ≤ max_nodes
  pub network : Network n edge
  pub climbing : Climbing n edge (label_in labels)
  pub highest : (v : ℕ) → v < n → label_in labels v ≤ n
  pub labels-long : n ≤ length labels
  pub free-long : n * n ≤ length free
  pub falling-long : n * n ≤ length falling
  pub free-rows : (v t : ℕ) → v < n → t < n → get_or free (v * n + t) 0 ≡ entry n edge (label_in labels) t true v
  pub falling-rows : (v t : ℕ) → v < n → t < n → get_or falling (v * n + t) 0 ≡ entry n edge (label_in labels) t false v
