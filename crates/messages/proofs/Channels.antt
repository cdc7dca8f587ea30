-- Channels and their numbers: no two share one, and ranks can be read off them. Along a message's channels ranks rise: its injection channel is lowest, then its
-- hops by their labels, its consumption channel is highest.
use mathlib.Core.Path.{◌≡◌, refl, ◌∙◌, ap, ap₂}
use mathlib.Core.Bool.{Bool, true, false}
use mathlib.Core.List.{List, [], ◌∷◌}
use Prim.Native.Nat.{ℕ, zero, suc, ◌+◌, ◌*◌, ◌/◌, ◌%◌, ◌≤◌, ◌<◌}
use native.Mathlib.Nat.{not-suc-le-zero, le_of_suc-le-suc}
use native.Mathlib.Omega.{arith}
use lib.ListN.{length, get_or}
use Rattle.finite.specs.Truth.{same, below}
use Rattle.finite.proofs.Truth.{bcase, eq-same, ne_same, below-lt, below-le}
use Rattle.lawful.specs.Turn.{Distinct}
use Rattle.lawful.specs.Path.{LawfulTo}
use Rattle.lawful.proofs.Paths.{path_inside}
use Rattle.lawful.proofs.Rank.{rank, rank_between, hop_rank, later-rank}
use Rattle.nodes.specs.Limits.{max_nodes}
use Rattle.messages.specs.Sizes.{node_channels}
use Rattle.messages.specs.Channels.{hop_channel, injection, consumption}
use Rattle.messages.specs.Runs.{channels_to}

-- ---- RULES 8.1: "No two of all these are the same channel"

pub channel_ends : (a b c d : ℕ) → b < max_nodes → d < max_nodes → hop_channel a b ≡ hop_channel c d → (a ≡ c) × (b ≡ d)
channel_ends a b c d p q e = (omega arith, omega arith)

pub injection-node : (a b : ℕ) → injection a ≡ injection b → a ≡ b
injection-node a b e = omega arith

pub consumption-node : (a b : ℕ) → consumption a ≡ consumption b → a ≡ b
consumption-node a b e = omega arith

pub injection_apart : (a b : ℕ) → injection a ≡ consumption b → ⊥
injection_apart a b e = omega arith

pub hop-no-injection : (a b v : ℕ) → b < max_nodes → hop_channel a b ≡ injection v → ⊥
hop-no-injection a b v p e = omega arith

pub hop-no-consumption : (a b v : ℕ) → b < max_nodes → hop_channel a b ≡ consumption v → ⊥
hop-no-consumption a b v p e = omega arith

-- ---- the channels of a path

pub channels-length : (t v : ℕ) (l : List ℕ) → length (channels_to t v l) ≡ suc (length l)
channels-length t v [] = refl
channels-length t v (u ∷ l) = ap suc (channels-length t u l)

-- hop i goes from node i to node i + 1 of the path
pub channels-hop : (t v : ℕ) (l : List ℕ) (i d : ℕ) → i < length l → get_or (channels_to t v l) i d ≡ hop_channel (get_or (v ∷ l) i 0) (get_or l i 0)
channels-hop t v [] i d b = absurd (not-suc-le-zero b)
channels-hop t v (u ∷ l) zero d b = refl
channels-hop t v (u ∷ l) (suc i) d b = channels-hop t u l i d (le_of_suc-le-suc b)

pub channels_home : (t v : ℕ) (l : List ℕ) (d : ℕ) → get_or (channels_to t v l) (length l) d ≡ consumption t
channels_home t v [] d = refl
channels_home t v (u ∷ l) d = channels_home t u l d

-- ---- ranks

-- an injection channel ranks lowest, a channel of a hop like the hop, a consumption channel highest
unfoldable pub channel_rank : ℕ → (ℕ → ℕ) → ℕ → ℕ
channel_rank n label c =
    elim (same (c % node_channels) max_nodes) [
      | true ↦ 0
      | false ↦ elim (same (c % node_channels) (max_nodes + 1)) [ true ↦ 2 * n + 2 | false ↦ rank n label (c / node_channels) (c % node_channels) ]
    ]

module _ (n : ℕ) (label : ℕ → ℕ) where
  pub rank-injection : (v : ℕ) → channel_rank n label (injection v) ≡ 0
  unfolding channel_rank
  rank-injection v = let e : injection v % node_channels ≡ max_nodes = omega arith in rw (eq-same e, channel_rank)

  pub rank-consumption : (v : ℕ) → channel_rank n label (consumption v) ≡ 2 * n + 2
  unfolding channel_rank
  rank-consumption v =
      let e : consumption v % node_channels ≡ max_nodes + 1 = omega arith in
      let f : consumption v % node_channels ≡ max_nodes → ⊥ = λ q. omega arith in
      rw (ne_same f, channel_rank, eq-same e)

  pub rank-hop : (a b : ℕ) → b < max_nodes → channel_rank n label (hop_channel a b) ≡ rank n label a b
  unfolding channel_rank
  rank-hop a b l =
      let e : hop_channel a b % node_channels ≡ b = omega arith in
      let f : hop_channel a b / node_channels ≡ a = omega arith in
      let p : hop_channel a b % node_channels ≡ max_nodes → ⊥ = λ q. omega arith in
      let q : hop_channel a b % node_channels ≡ max_nodes + 1 → ⊥ = λ q. omega arith in
      rw (ne_same p, channel_rank, ne_same q) (ap₂ (rank n label) f e)

module _ (n : ℕ) (edge : ℕ → ℕ → Bool) (label : ℕ → ℕ) (many : n ≤ max_nodes) (inside : (a b : ℕ) → edge a b ≡ true → b < n) where
  module _ (v t : ℕ) (l : List ℕ) (way : LawfulTo edge label v t l) where
    node-low : (i : ℕ) → i < length l → get_or l i 0 < n
    node-low = path_inside edge inside v l way.path

    -- its channels are those of nodes below n
    pub channels-low : v < n → t < n → (i : ℕ) → i < length (channels_to t v l) → get_or (channels_to t v l) i 0 < node_channels * n
    channels-low first last i b =
        bcase (below i (length l))
        (λ h.
        let k = below-lt _ _ h in
        let at = channels-hop t v l i 0 k in
        let from = path-from i k in
        let to = node-low i k in
        omega arith)
        (λ h.
        let k = below-le _ _ h in
        let e = channels-length t v l in
        let i-last : i ≡ length l = omega arith in
        let at = ap (λ (j : ℕ). get_or (channels_to t v l) j 0) i-last ∙ channels_home t v l 0 in
        omega arith)
      where
        path-from : (i : ℕ) → i < length l → get_or (v ∷ l) i 0 < n
        path-from zero k = first
        path-from (suc i) k = node-low i (omega arith)

    module _ (distinct : Distinct edge label) (bound : (x : ℕ) → x < n → label x ≤ n) where
      abbrev rank_of : ℕ → ℕ
      rank_of i = channel_rank n label (get_or (channels_to t v l) i 0)

      hop_ranks : (i : ℕ) → i < length l → (rank_of i ≡ hop_rank n label v l i) × (0 < rank_of i) × (rank_of i ≤ 2 * n + 1)
      hop_ranks i b =
          let u = node-low i b in
          let e : rank_of i ≡ hop_rank n label v l i = ap (channel_rank n label) (channels-hop t v l i 0 b) ∙ rank-hop n label _ _ (omega arith) in
          let w = rank_between n label (get_or (v ∷ l) i 0) (get_or l i 0) (bound _ u) in
          let p = w.0 in
          let q = w.1 in
          (e, omega arith, omega arith)

      home_ranks : (i : ℕ) → length l ≤ i → i < length (channels_to t v l) → rank_of i ≡ 2 * n + 2
      home_ranks i h b =
          let e = channels-length t v l in
          let i-last : i ≡ length l = omega arith in
          ap (channel_rank n label) (ap (λ (j : ℕ). get_or (channels_to t v l) j 0) i-last ∙ channels_home t v l 0) ∙ rank-consumption n label t

      -- each ranks above 0
      pub channels-above : (i : ℕ) → i < length (channels_to t v l) → 0 < rank_of i
      channels-above i b =
          bcase (below i (length l)) (λ h. (hop_ranks i (below-lt _ _ h)).1) (λ h. let e = home_ranks i (below-le _ _ h) b in omega arith)

      -- and each later one higher
      pub channels-rise : (i j : ℕ) → i < j → j < length (channels_to t v l) → rank_of i < rank_of j
      channels-rise i j k b =
          let e = channels-length t v l in
          let x = hop_ranks i (omega arith) in
          let low = x.2 in
          let at = x.0 in
          bcase (below j (length l))
          (λ h.
          let up = later-rank n n edge label inside distinct bound true v t l way i j k (below-lt _ _ h) in
          let y = (hop_ranks j (below-lt _ _ h)).0 in
          omega arith)
          (λ h. let y = home_ranks j (below-le _ _ h) b in omega arith)
