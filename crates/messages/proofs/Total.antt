-- The sum of (hops + 3): each route is a shortest lawful path, so it is that of any such paths; it is the whole of the claims, and small. Ranks rise along the
-- channels of each message.
use mathlib.Core.Path.{◌≡◌}
use mathlib.Core.Bool.{Bool}
use mathlib.Core.List.{List}
use Prim.Native.Nat.{ℕ, zero, suc, ◌+◌, ◌*◌, ◌≤◌, ◌<◌}
use native.Mathlib.Nat.{le_of_suc-le-suc}
use native.Mathlib.Omega.{arith}
use lib.ListN.{length, get_or}
use Rattle.finite.specs.Sum.{sum_to}
use Rattle.finite.proofs.Sum.{sum_cong, sum-within}
use Rattle.lawful.specs.Path.{LawfulTo, Shortest}
use Rattle.lawful.proofs.Routes.{climbing-route}
use Rattle.lawful.proofs.Few.{few-on-route}
use Rattle.lawful.proofs.Paths.{path_inside}
use Rattle.lawful.specs.Turn.{label_in}
use Rattle.claims.specs.Claims.{Rising, whole}
use Rattle.hops.specs.Tabled.{Tabled}
use Rattle.messages.specs.Sizes.{max_messages, node_channels}
use Rattle.messages.specs.Fresh.{source_in, target_in}
use Rattle.messages.specs.Runs.{Listed, messages_in, route_in, itinerary_in, all_moves}
use Rattle.messages.proofs.Channels.{channels-length, channel_rank, rank-injection, channels-low, channels-above, channels-rise}
use Rattle.messages.proofs.State.{few-messages, source-low, target-low}

module _ {n : ℕ} {edge : ℕ → ℕ → Bool} {labels free falling list : List ℕ} (tabled : Tabled n edge labels free falling) (listed : Listed n list) where
  module _ (m : ℕ) (low : m < messages_in list) where
    -- a message's route is a shortest lawful path from its source to its destination, and has fewer hops than there are nodes
    pub hops-shortest : Shortest (LawfulTo edge (label_in labels) (source_in list m) (target_in list m)) (route_in n edge labels list m)
    unfolding route_in
    hops-shortest =
        (climbing-route n edge (label_in labels) tabled.network tabled.climbing (source_in list m) (target_in list m) (source-low tabled listed m low) (target-low tabled listed m low)).shortest

    hops-few : length (route_in n edge labels list m) < n
    unfolding route_in
    hops-few =
        few-on-route n edge (label_in labels) tabled.network tabled.climbing (source_in list m) (target_in list m) (source-low tabled listed m low) (target-low tabled listed m low)

    -- its nodes are among the n
    pub route-inside : (i : ℕ) → i < length (route_in n edge labels list m) → get_or (route_in n edge labels list m) i 0 < n
    route-inside = path_inside edge tabled.network.inside (source_in list m) (route_in n edge labels list m) hops-shortest.is.path

  -- RULES 2.3: "the sum, over all messages, of (shortest lawful hops + 3)", over any shortest lawful paths
  pub sum_of_shortest : (paths : ℕ → List ℕ)
      → ((m : ℕ) → m < messages_in list → Shortest (LawfulTo edge (label_in labels) (source_in list m) (target_in list m)) (paths m))
      → all_moves n edge labels list ≡ sum_to (messages_in list) (λ m. length (paths m) + 3)
  unfolding all_moves
  sum_of_shortest paths shortest =
      sum_cong (messages_in list) _ _
      (λ m l.
      let a = (hops-shortest m l).least (paths m) (shortest m l).is in
      let b = (shortest m l).least (route_in n edge labels list m) (hops-shortest m l).is in
      omega arith)

  pub all-moves-small : all_moves n edge labels list ≤ node_channels * max_messages
  unfolding all_moves
  all-moves-small =
      let b = sum-within (messages_in list) node_channels (λ m. length (route_in n edge labels list m) + 3) (λ m l. let h = hops-few m l in omega arith) in
      let k = few-messages tabled listed in
      omega arith

  -- a message takes two channels more than its route has hops
  pub itinerary-length : (m : ℕ) → length (itinerary_in n edge labels list m) ≡ length (route_in n edge labels list m) + 2
  unfolding itinerary_in
  itinerary-length m = let e = channels-length (target_in list m) (source_in list m) (route_in n edge labels list m) in omega arith

  pub all-moves-whole : all_moves n edge labels list ≡ whole (messages_in list) (itinerary_in n edge labels list)
  unfolding all_moves whole
  all-moves-whole = sum_cong (messages_in list) _ _ (λ m l. let e = itinerary-length m in omega arith)

  -- ranks rise along each message's channels
  pub channels-rising : Rising (messages_in list) (itinerary_in n edge labels list) (channel_rank n (label_in labels))
  unfolding itinerary_in
  channels-rising m low zero zero k b = absurd (omega arith)
  channels-rising m low (suc i) zero k b = absurd (omega arith)
  channels-rising m low zero (suc j) k b =
      let z = rank-injection n (label_in labels) (source_in list m) in
      let up = channels-above n edge (label_in labels) tabled.most tabled.network.inside (source_in list m) (target_in list m) (route_in n edge labels list m)
      (hops-shortest m low).is tabled.climbing.distinct tabled.highest j (le_of_suc-le-suc b) in
      omega arith
  channels-rising m low (suc i) (suc j) k b =
      channels-rise n edge (label_in labels) tabled.most tabled.network.inside (source_in list m) (target_in list m) (route_in n edge labels list m)
      (hops-shortest m low).is tabled.climbing.distinct tabled.highest i j (le_of_suc-le-suc k) (le_of_suc-le-suc b)

  -- and each is of one of the n nodes
  pub channels-inside : (m : ℕ) → m < messages_in list → (i : ℕ) → i < length (itinerary_in n edge labels list m) → get_or (itinerary_in n edge labels list m) i 0 < node_channels * n
  unfolding itinerary_in
  channels-inside m low zero b = let s = source-low tabled listed m low in omega arith
  channels-inside m low (suc i) b =
      channels-low n edge (label_in labels) tabled.most tabled.network.inside (source_in list m) (target_in list m) (route_in n edge labels list m)
      (hops-shortest m low).is (source-low tabled listed m low) (target-low tabled listed m low) i (le_of_suc-le-suc b)
