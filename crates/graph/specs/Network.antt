-- A network is a number of nodes n and a test `edge` for links; a node set is a test. These are the words that a reader believes.
use Rattle.std.specs.Prelude.{◌≡◌, Bool, true, ℕ, ◌<◌}
use Rattle.finite.specs.Truth.{◌&◌, non, same}
use Rattle.finite.specs.Sum.{count}
use Rattle.finite.specs.Sets.{without}

-- RULES 3.1: "A link has no direction. No node is linked to itself"; each link joins two of the n nodes
pub record Network (n : ℕ) (edge : ℕ → ℕ → Bool) : Type 0 where
  pub undirected : (a b : ℕ) → edge a b ≡ true → edge b a ≡ true
  pub no_loop : (a : ℕ) → edge a a ≡ true → ⊥
  pub inside : (a b : ℕ) → edge a b ≡ true → b < n

-- every member of R is one of the n nodes
abbrev pub Members : ℕ → (ℕ → Bool) → Type 0
Members n R = (v : ℕ) → R v ≡ true → v < n

-- the links of the remaining graph: those between two members of R
unfoldable pub among : (ℕ → Bool) → (ℕ → ℕ → Bool) → ℕ → ℕ → Bool
among R edge a b = R a & R b & edge a b

-- the links that do not touch v: what is left when v is struck out
unfoldable pub avoid : ℕ → (ℕ → ℕ → Bool) → ℕ → ℕ → Bool
avoid v edge = among (λ u. non (same v u)) edge

-- a walk from one node to another: none, one or more links in a row
pub data Walk (edge : ℕ → ℕ → Bool) : ℕ → ℕ → Type 0 where
  here : {a : ℕ} → Walk edge a a
  step : {a b c : ℕ} → edge a b ≡ true → Walk edge b c → Walk edge a c

-- a walk that starts at a node below n which passes p, and leads to v
pub record From (n : ℕ) (edge : ℕ → ℕ → Bool) (p : ℕ → Bool) (v : ℕ) : Type 0 where
  pub start : ℕ
  pub low : start < n
  pub fact : p start ≡ true
  pub walk : Walk edge start v

-- RULES 3.4: "A graph is connected when each of its nodes can be reached from each other one over its links.": any two members of R are joined by a walk
-- inside R; so one node alone is connected
abbrev pub Connected : (ℕ → ℕ → Bool) → (ℕ → Bool) → Type 0
Connected edge R = (a b : ℕ) → R a ≡ true → R b ≡ true → Walk (among R edge) a b

-- RULES 3.4: "A cut node of a connected graph is a node without which it is no longer connected."; here neither that R is connected nor that v is in R is
-- asked
abbrev pub CutNode : (ℕ → ℕ → Bool) → (ℕ → Bool) → ℕ → Type 0
CutNode edge R v = Connected edge (without R v) → ⊥

-- RULES 4.2: "remaining degree", R being the remaining nodes: the number of v's neighbours in R
unfoldable pub degree : ℕ → (ℕ → ℕ → Bool) → (ℕ → Bool) → ℕ → ℕ
degree n edge R v = count n (λ u. R u & edge v u)
