-- The next channel of a message in a state: it is the one that the claims say it wants, and behind it comes the next of its channels.
use mathlib.Core.Path.{◌≡◌, refl, sym, ◌∙◌, ap, ap₂}
use mathlib.Core.Bool.{Bool}
use mathlib.Core.List.{List}
use Prim.Native.Nat.{ℕ, zero, suc, ◌≤◌, ◌<◌}
use native.Mathlib.Omega.{arith}
use lib.ListN.{length, get_or, get_or-eq_default}
use Rattle.finite.specs.Truth.{same, below}
use Rattle.finite.proofs.Truth.{bcase, same-eq, same-ne, below-lt, below-le}
use Rattle.finite.proofs.Lists.{get_or-inside}
use Rattle.lawful.specs.Entry.{entry, free_after}
use Rattle.lawful.specs.Turn.{label_in}
use Rattle.claims.specs.Claims.{Progress, wanted}
use Rattle.hops.specs.Hop.{Next, hop_within}
use Rattle.hops.specs.Tabled.{class_of, Tabled}
use Rattle.hops.proofs.Leads.{hop-entry}
use Rattle.messages.specs.Sizes.{max_channels}
use Rattle.messages.specs.Channels.{hop_channel, consumption, all_taken}
use Rattle.messages.specs.declared.Record.{Record}
use Rattle.messages.specs.declared.Ahead.{Ahead}
use Rattle.messages.specs.Step.{want, head, target, class, ahead_of}
use Rattle.messages.specs.Fresh.{source_in, target_in}
use Rattle.messages.specs.Runs.{Listed, messages_in, route_in, itinerary_in}
use Rattle.messages.proofs.Moves.{ahead-last, ahead_home, ahead-hop}
use Rattle.messages.proofs.Channels.{injection_apart, hop-no-consumption, channels-hop, channels_home}
use Rattle.messages.proofs.Way.{way_end, way_next}
use Rattle.messages.proofs.State.{is_channel_free, OnRoute, hops_to, State, few-messages, target-low}
use Rattle.messages.proofs.Total.{itinerary-length, channels-inside, route-inside}

-- what comes behind the channel that message m wants: the next of its channels, and it is on its way to where that leads
pub record Behind (n : ℕ) (edge : ℕ → ℕ → Bool) (labels list : List ℕ) (r : Record) (s : Progress) (m : ℕ) : Type 0 where
  pub class-then : Bool
  pub class-is : (ahead_of r m).class ≡ class_of class-then
  pub want_is : (ahead_of r m).want ≡ get_or (itinerary_in n edge labels list m) (suc (s.taken m)) all_taken
  pub way : OnRoute n edge labels list m (hops_to n edge labels list m (suc (s.taken m))) class-then (ahead_of r m).head

module _ {n : ℕ} {edge : ℕ → ℕ → Bool} {labels free falling list : List ℕ} (tabled : Tabled n edge labels free falling) (listed : Listed n list)
    {r : Record} {s : Progress} (state : State n edge labels free falling list r s) (m : ℕ) (low : m < messages_in list) where
  abbrev route : List ℕ
  route = route_in n edge labels list m

  abbrev itinerary : List ℕ
  itinerary = itinerary_in n edge labels list m

  abbrev taken : ℕ
  taken = s.taken m

  -- ---- what it wants

  want-next : taken < length itinerary → (want r m ≡ wanted (itinerary_in n edge labels list) s m) × (want r m < max_channels)
  want-next b =
      let e = state.says.wants m low ∙ get_or-inside itinerary taken all_taken 0 b in
      let l = channels-inside tabled listed m low taken b in
      let most = tabled.most in
      (e, omega arith)

  want-none : length itinerary ≤ taken → want r m ≡ all_taken
  want-none h = state.says.wants m low ∙ get_or-eq_default itinerary all_taken h

  -- what it wants is no channel: it has taken all of them
  pub all-taken : max_channels ≤ want r m → (taken ≡ length itinerary) × (want r m ≡ all_taken)
  all-taken past =
      let w = state.says.lawful.within m low in
      bcase (below taken (length itinerary)) (λ t. let l = (want-next (below-lt _ _ t)).1 in absurd (omega arith))
      (λ t. let h = below-le _ _ t in (omega arith, want-none h))

  -- it is a channel: there is one more to take, and it is the next
  pub more-to-take : want r m < max_channels → taken < length itinerary
  more-to-take l =
      bcase (below taken (length itinerary)) (λ t. below-lt _ _ t)
      (λ t. let e = want-none (below-le _ _ t) in absurd (omega arith))

  pub next-wanted : want r m < max_channels → want r m ≡ wanted (itinerary_in n edge labels list) s m
  next-wanted l = (want-next (more-to-take l)).0

  -- ---- what comes behind it

  goes : target r m ≡ target_in list m
  goes = state.kept.targets m (let b = few-messages tabled listed in omega arith)

  there : target_in list m < n
  there = target-low tabled listed m low

  on-way : OnRoute n edge labels list m (hops_to n edge labels list m taken) (is_channel_free r m) (head r m)
  on-way = state.way m low

  class_now : class r m ≡ class_of (is_channel_free r m)
  class_now = state.classed m low

  itinerary_home : get_or itinerary (suc (length route)) all_taken ≡ consumption (target_in list m)
  unfolding itinerary_in
  itinerary_home = channels_home (target_in list m) (source_in list m) route all_taken

  -- it wants its consumption channel: none comes behind
  behind-last : taken ≡ suc (length route) → Behind n edge labels list r s m
  unfolding ahead_of
  behind-last e =
      let w : want r m ≡ consumption (target r m) = state.says.wants m low ∙ ap (λ (j : ℕ). get_or itinerary j all_taken) e ∙ itinerary_home ∙ ap consumption (sym goes) in
      let a = sym (ahead-last r.nodes r.labels r.free r.falling (want r m) (head r m) (class r m) (target r m) refl w) in
      let size = itinerary-length tabled listed m in
      let same-hops : hops_to n edge labels list m (suc taken) ≡ hops_to n edge labels list m taken = omega arith in
      record {
        class-then = is_channel_free r m;
        class-is = ap (λ (x : Ahead). x.class) a ∙ class_now;
        want_is = ap (λ (x : Ahead). x.want) a ∙ sym (get_or-eq_default itinerary all_taken (omega arith));
        way = rw (same-hops, ap (λ (x : Ahead). x.head) a) on-way;
      }

  module _ (b : taken ≤ length route) where
    -- it wants its injection channel or that of a hop
    not_last : want r m ≡ consumption (target r m) → ⊥
    unfolding itinerary_in
    not_last e = go taken (state.says.wants m low) b
      where
        go : (j : ℕ) → want r m ≡ get_or itinerary j all_taken → j ≤ length route → ⊥
        go zero w l = injection_apart _ _ (sym w ∙ e)
        go (suc j) w l =
            hop-no-consumption _ _ _ (let u = route-inside tabled listed m low j (omega arith) in let most = tabled.most in omega arith)
            (sym (w ∙ channels-hop (target_in list m) (source_in list m) route j all_taken (omega arith)) ∙ e)

    hops-taken : hops_to n edge labels list m taken ≡ taken
    hops-taken = omega arith

    here : OnRoute n edge labels list m taken (is_channel_free r m) (head r m)
    here = rw hops-taken at on-way

    -- at its destination its consumption channel comes next
    behind_home : head r m ≡ target r m → Behind n edge labels list r s m
    unfolding ahead_of
    behind_home e =
        let end = way_end tabled.network.inside there here (e ∙ goes) in
        let a = sym (ahead_home r.nodes r.labels r.free r.falling (want r m) (head r m) (class r m) (target r m) refl not_last e) in
        let same-hops : hops_to n edge labels list m (suc taken) ≡ taken = omega arith in
        record {
          class-then = is_channel_free r m;
          class-is = ap (λ (x : Ahead). x.class) a ∙ class_now;
          want_is = ap (λ (x : Ahead). x.want) a ∙ ap consumption goes ∙ sym itinerary_home ∙ ap (λ (j : ℕ). get_or itinerary (suc j) all_taken) (sym end);
          way = rw (same-hops, ap (λ (x : Ahead). x.head) a) here;
        }

    -- elsewhere the channel of the hop that its entry says
    module _ (d : head r m ≡ target r m → ⊥) where
      away : head r m ≡ target_in list m → ⊥
      away e = d (e ∙ sym goes)

      abbrev onward : ℕ
      onward = entry n edge (label_in labels) (target_in list m) (is_channel_free r m) (head r m)

      abbrev free-then : Bool
      free-then = free_after edge (label_in labels) (is_channel_free r m) (head r m) onward

      hop-is : hop_within r.labels r.free r.falling r.nodes (head r m) (class r m) (target r m) ≡ Next onward (class_of free-then)
      hop-is =
          let labels_are = state.kept.labels_are in
          let free_are = state.kept.free_are in
          let falling_are = state.kept.falling_are in
          let nodes = state.kept.nodes in
          let class-is = class_now in
          let to = goes in
          let h = hop-entry tabled here.low there away here.run in
          cc

      next_way : OnRoute n edge labels list m (suc taken) free-then onward
      next_way = way_next tabled.network.inside there here away

      itinerary-hop : get_or itinerary (suc taken) all_taken ≡ hop_channel (head r m) onward
      unfolding itinerary_in
      itinerary-hop = channels-hop (target_in list m) (source_in list m) route taken all_taken next_way.within ∙ sym (ap₂ hop_channel here.at next_way.at)

      behind-hop : Behind n edge labels list r s m
      unfolding ahead_of
      behind-hop =
          let a = sym (ahead-hop r.nodes r.labels r.free r.falling (want r m) (head r m) (class r m) (target r m) refl not_last d (sym hop-is) refl refl) in
          let within = next_way.within in
          let hops : hops_to n edge labels list m (suc taken) ≡ suc taken = omega arith in
          record {
            class-then = free-then;
            class-is = ap (λ (x : Ahead). x.class) a;
            want_is = ap (λ (x : Ahead). x.want) a ∙ sym itinerary-hop;
            way = rw (hops, ap (λ (x : Ahead). x.head) a) next_way;
          }

  pub behind : taken < length itinerary → Behind n edge labels list r s m
  behind b =
      let size = itinerary-length tabled listed m in
      bcase (below (length route) taken) (λ t. let l = below-lt _ _ t in behind-last (omega arith))
      (λ t.
      let l = below-le _ _ t in
      bcase (same (head r m) (target r m)) (λ e. behind_home l (same-eq _ _ e)) (λ e. behind-hop l (same-ne _ _ e)))
