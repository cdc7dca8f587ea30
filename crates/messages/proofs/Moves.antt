-- What a move answers and leaves, and which channel comes next, case by case.
use Rattle.std.specs.Prelude.{Ok}
use mathlib.Core.Path.{◌≡◌, sym, ◌∙◌, ap}
use mathlib.Core.Bool.{true, false}
use mathlib.Core.List.{List}
use Prim.Native.Nat.{ℕ, ◌-◌, ◌<◌, ◌≤◌}
use native.Mathlib.Omega.{arith}
use Rattle.finite.specs.Truth.{◌&◌, same, below}
use Rattle.finite.proofs.Truth.{bcase, refute, both, and_l, and_r, same-eq, same-ne, eq-same, ne_same, below-lt, below-le, lt-below, le_below}
use Rattle.hops.specs.Hop.{HopAnswer, Next, hop_within, has_next}
use lib.ListN.{get_or}
use Rattle.messages.specs.Sizes.{max_messages, max_channels}
use Rattle.messages.specs.Channels.{hop_channel, consumption, all_taken, no_channel}
use Rattle.messages.specs.declared.Record.{Record}
use Rattle.messages.specs.declared.Answer.TheVariants.{Already, Moved, Blocked, Delivered}
use Rattle.messages.specs.declared.Stepped.{Stepped}
use Rattle.messages.specs.Step.{want, is_delivered, holder, unheld_in, ahead, by_hop, ahead_in, moved, arrived, with, refused_of, step_of}
use Rattle.messages.specs.Ready.{messages_of}

-- ---- who holds the next channel

module _ (holders : List ℕ) (c : ℕ) where
  pub unheld-free : unheld_in holders c ≡ true → get_or holders c 0 ≡ 0
  unfolding unheld_in
  unheld-free t = same-eq _ _ t

  pub held-not-free : unheld_in holders c ≡ false → get_or holders c 0 ≡ 0 → ⊥
  unfolding unheld_in
  held-not-free f = same-ne _ _ f

  free-unheld : get_or holders c 0 ≡ 0 → unheld_in holders c ≡ true
  unfolding unheld_in
  free-unheld e = eq-same e

  not-free-held : (get_or holders c 0 ≡ 0 → ⊥) → unheld_in holders c ≡ false
  unfolding unheld_in
  not-free-held d = ne_same d

-- ---- which channel comes next

module _ (nodes : ℕ) (labels free falling : List ℕ) (taken head class target : ℕ) {last : ℕ} (home : last ≡ consumption target) where
  -- none behind the consumption channel of the destination
  pub ahead-last : taken ≡ last → ahead all_taken head class ≡ ahead_in nodes labels free falling taken head class target
  unfolding ahead_in
  ahead-last e = rw (eq-same (e ∙ home), ahead_in)

  module _ (more : taken ≡ last → ⊥) where
    not_last : taken ≡ consumption target → ⊥
    not_last e = more (e ∙ sym home)

    pub ahead_home : head ≡ target → ahead last head class ≡ ahead_in nodes labels free falling taken head class target
    unfolding ahead_in
    ahead_home e = rw (ne_same not_last, ahead_in, eq-same e) (ap (λ (c : ℕ). ahead c head class) home)

    module _ (away : head ≡ target → ⊥) {answer : HopAnswer} (asked : answer ≡ hop_within labels free falling nodes head class target) where
      by-hop : by_hop head class answer ≡ ahead_in nodes labels free falling taken head class target
      unfolding ahead_in
      by-hop = rw (ne_same not_last, ahead_in, ne_same away) (ap (by_hop head class) asked)

      pub ahead-hop : {c u then : ℕ} → c ≡ hop_channel head u → answer ≡ Next u then → ahead c u then ≡ ahead_in nodes labels free falling taken head class target
      unfolding by_hop
      ahead-hop {u = u} {then = then} way e = ap (λ (c : ℕ). ahead c u then) way ∙ sym (ap (by_hop head class) e) ∙ by-hop

      pub ahead_none : has_next answer ≡ false → ahead no_channel head class ≡ ahead_in nodes labels free falling taken head class target
      unfolding by_hop
      ahead_none e = let none : by_hop head class answer ≡ ahead no_channel head class = rw (e, by_hop) in sym none ∙ by-hop

-- ---- a move

module _ (r : Record) (m : ℕ) where
  pub step-none : messages_of r ≤ m → step_of r m ≡ refused_of r
  unfolding step_of
  step-none l =
      let none : below m r.messages & below m max_messages ≡ false =
      refute _ (λ t. let a = below-lt _ _ (and_l _ _ t) in let b = below-lt _ _ (and_r _ _ t) in omega arith) in
      rw (none, step_of)

  module _ (low : m < messages_of r) where
    pub there : below m r.messages & below m max_messages ≡ true
    there = both (lt-below (omega arith)) (lt-below (omega arith))

    pub step-already : is_delivered r m ≡ true → step_of r m ≡ with r (Ok Already)
    unfolding step_of
    step-already d = rw (there, step_of, d)

    module _ (d : is_delivered r m ≡ false) where
      pub step_delivered : want r m ≡ all_taken → step_of r m ≡ with (arrived r m) (Ok Delivered)
      unfolding step_of
      step_delivered e = let past : max_channels ≤ want r m = omega arith in rw (there, step_of, d, le_below past, eq-same e)

      pub step-astray : max_channels ≤ want r m → (want r m ≡ all_taken → ⊥) → step_of r m ≡ refused_of r
      unfolding step_of
      step-astray past e = rw (there, step_of, d, le_below past, ne_same e)

      module _ (next : want r m < max_channels) where
        pub step_blocked : (holder r (want r m) ≡ 0 → ⊥) → step_of r m ≡ with r (Ok (Blocked (holder r (want r m) - 1)))
        unfolding step_of
        step_blocked h = rw (there, step_of, d, lt-below next, not-free-held _ _ h)

        pub step-moved : holder r (want r m) ≡ 0 → step_of r m ≡ with (moved r m) (Ok Moved)
        unfolding step_of
        step-moved h = rw (there, step_of, d, lt-below next, free-unheld _ _ h)

-- ---- its six cases

pub data Case (r : Record) (m : ℕ) : Stepped → Type 0 where
  unknown : messages_of r ≤ m → Case r m (refused_of r)
  already : m < messages_of r → is_delivered r m ≡ true → Case r m (with r (Ok Already))
  arrives : m < messages_of r → is_delivered r m ≡ false → want r m ≡ all_taken → Case r m (with (arrived r m) (Ok Delivered))
  astray : m < messages_of r → is_delivered r m ≡ false → max_channels ≤ want r m → (want r m ≡ all_taken → ⊥) → Case r m (refused_of r)
  waits : m < messages_of r → is_delivered r m ≡ false → want r m < max_channels → (holder r (want r m) ≡ 0 → ⊥)
      → Case r m (with r (Ok (Blocked (holder r (want r m) - 1))))
  moves : m < messages_of r → is_delivered r m ≡ false → want r m < max_channels → holder r (want r m) ≡ 0 → Case r m (with (moved r m) (Ok Moved))

pub step_case : (r : Record) (m : ℕ) → Case r m (step_of r m)
step_case r m =
    bcase (below m (messages_of r))
    (λ t.
    let l = below-lt _ _ t in
    bcase (is_delivered r m) (λ u. rw (step-already r m l u) (already l u))
    (λ u.
    bcase (below (want r m) max_channels)
    (λ c.
    let next = below-lt _ _ c in
    bcase (unheld_in r.holders (want r m)) (λ h. let z = unheld-free _ _ h in rw (step-moved r m l u next z) (moves l u next z))
    (λ h. let z = held-not-free _ _ h in rw (step_blocked r m l u next z) (waits l u next z)))
    (λ c.
    let past = below-le _ _ c in
    bcase (same (want r m) all_taken) (λ e. let q = same-eq _ _ e in rw (step_delivered r m l u q) (arrives l u q))
    (λ e. let q = same-ne _ _ e in rw (step-astray r m l u past q) (astray l u past q)))))
    (λ t. let l = below-le _ _ t in rw (step-none r m l) (unknown l))
