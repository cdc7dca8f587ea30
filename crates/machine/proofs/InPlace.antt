-- A move in place: it is a move of the record where every channel from the bound on is free; and each way through its code is a case of it.
use Rattle.std.specs.Prelude.{Ok}
use mathlib.Core.Path.{◌≡◌, refl, sym, ◌∙◌, ap}
use mathlib.Core.Bool.{true, false}
use mathlib.Core.List.{List}
use Prim.Native.Nat.{ℕ, suc, ◌+◌, ◌-◌, ◌≤◌, ◌<◌}
use native.Mathlib.Numerals.{add-one}
use native.Mathlib.Omega.{arith}
use lib.ListN.{length, get_or, set, get_or-eq_default}
use Rattle.finite.specs.Truth.{below}
use Rattle.finite.specs.Lists.{tabulate}
use Rattle.finite.proofs.Truth.{no_tf, bcase, refute, both, and_l, and_r, non-true, true-non, same-eq, eq-same, below-lt, below-le, lt-below, le_below}
use Rattle.finite.proofs.Lists.{tabulate_cong}
use Rattle.messages.specs.Sizes.{max_channels}
use Rattle.messages.specs.Channels.{all_taken}
use Rattle.messages.specs.declared.Record.{Record}
use Rattle.messages.specs.declared.Ahead.{Ahead}
use Rattle.messages.specs.declared.Answer.TheVariants.{Already, Moved, Blocked, Delivered}
use Rattle.messages.specs.Step.{head, target, class, want, is_delivered, holder, ahead_in, ahead_of, counted, released, moved, arrived, with, refused_of, step_of}
use Rattle.messages.specs.Tells.{FreeFrom}
use Rattle.messages.specs.Ready.{messages_of}
use Rattle.messages.proofs.Moves.{there, step-none, step-already, step_delivered, step-astray, step_blocked, step-moved}
use Rattle.messages.proofs.Changes.{released-other}
use Rattle.machine.specs.declared.Lent.{Lent}
use Rattle.machine.specs.Lent.{made_of, StaysLent}
use Rattle.machine.specs.InPlace.{packed, advanced, left_in, given_back, arriving, arrived_in, step_in}

module _ (span holder : ℕ) (holders : List ℕ) (c : ℕ) where
  pub left_below : c < span → left_in span holder holders c ≡ released holder (get_or holders c 0)
  unfolding left_in
  left_below l = rw (lt-below l, left_in)

  pub left-from : span ≤ c → left_in span holder holders c ≡ get_or holders c 0
  unfolding left_in
  left-from l = rw (le_below l, left_in)

-- past the end no channel is held
pub free_past : {span : ℕ} {holders : List ℕ} → length holders ≡ span → FreeFrom span holders
free_past {holders = holders} e = record { none = λ c l. get_or-eq_default holders 0 (omega arith) }

-- where every channel from `span` on is free, all that m holds is given back
all_back : (span m : ℕ) (holders : List ℕ) → FreeFrom span holders → given_back span (suc m) holders ≡ tabulate (length holders) (λ c. released (suc m) (get_or holders c 0))
unfolding given_back
all_back span m holders free =
    tabulate_cong (length holders) _ _
    (λ c l.
    bcase (below c span) (λ t. left_below span (suc m) holders c (below-lt _ _ t))
    (λ t.
    let k = below-le _ _ t in
    let z = free.none c k in
    left-from span (suc m) holders c k ∙ sym (released-other _ (suc m) (λ q. omega arith))))

-- what comes behind, written down part by part
pub advances : (r : Record) (m : ℕ) {taken at kind to : ℕ} {found : Ahead} {heads classes wants : List ℕ}
    → taken ≡ want r m → at ≡ head r m → kind ≡ class r m → to ≡ target r m → found ≡ ahead_in r.nodes r.labels r.free r.falling taken at kind to
    → heads ≡ set r.heads m found.head → classes ≡ set r.classes m found.class → wants ≡ set r.wants m found.want
    → packed r.nodes r.messages r.moves r.labels r.free r.falling r.targets heads classes wants r.delivered r.holders ≡ advanced r m
unfolding advanced ahead_of
advances r m a b c d e h k w = let f : _ ≡ ahead_of r m = e ∙ rw (a, b, c, d) refl in rw (h, k, w, f) refl

module _ (span : ℕ) (r : Record) (m : ℕ) where
  arrives : arriving r m ≡ true → step_in span r m ≡ with (arrived_in span r m) (Ok Delivered)
  unfolding step_in
  arrives h = rw (h, step_in)

  stays : arriving r m ≡ false → step_in span r m ≡ step_of r m
  unfolding step_in
  stays h = rw (h, step_in)

  arriving-is : arriving r m ≡ true → (m < messages_of r) × (is_delivered r m ≡ false) × (want r m ≡ all_taken)
  unfolding arriving
  arriving-is t =
      let a = below-lt _ _ (and_l _ _ (and_l _ _ t)) in
      let b = below-lt _ _ (and_r _ _ (and_l _ _ t)) in
      (omega arith, non-true _ (and_l _ _ (and_r _ _ t)), same-eq _ _ (and_r _ _ (and_r _ _ t)))

  -- a message that is not delivered by it moves as in the record
  not-arriving : (m < messages_of r → is_delivered r m ≡ false → want r m ≡ all_taken → ⊥) → step_in span r m ≡ step_of r m
  not-arriving never = stays (refute _ (λ t. let a = arriving-is t in never a.0 a.1 a.2))

  arrived-whole : length r.holders ≡ max_channels → FreeFrom span r.holders → arrived_in span r m ≡ arrived r m
  unfolding arrived_in arrived
  arrived-whole size free = rw (all_back span m r.holders free, size)

  -- no channel from `span` on is held: a move in place is a move
  pub step-in : length r.holders ≡ max_channels → FreeFrom span r.holders → step_in span r m ≡ step_of r m
  step-in size free =
      bcase (arriving r m)
      (λ t.
      let a = arriving-is t in
      arrives t ∙ ap (λ (x : Record). with x (Ok Delivered)) (arrived-whole size free) ∙ sym (step_delivered r m a.0 a.1 a.2))
      stays

  -- ---- what each way through the code leaves

  pub refused_in : messages_of r ≤ m → refused_of r ≡ step_in span r m
  refused_in l = sym (not-arriving (λ a b e. omega arith) ∙ step-none r m l)

  module _ (low : m < messages_of r) where
    pub already_in : is_delivered r m ≡ true → with r (Ok Already) ≡ step_in span r m
    already_in d = sym (not-arriving (λ a b e. no_tf d b) ∙ step-already r m low d)

    module _ (d : is_delivered r m ≡ false) {c : ℕ} (wants : c ≡ want r m) where
      pub delivered_in : {moves : ℕ} {delivered holders : List ℕ} → c ≡ all_taken → moves ≡ counted r.moves → delivered ≡ set r.delivered m 1
          → holders ≡ given_back span (m + 1) r.holders
          → with (packed r.nodes r.messages moves r.labels r.free r.falling r.targets r.heads r.classes r.wants delivered holders) (Ok Delivered)
          ≡ step_in span r m
      unfolding arriving arrived_in
      delivered_in e count mark back =
          let one = add-one m in
          let now = arrives (both (there r m low) (both (true-non d) (eq-same (sym wants ∙ e)))) in
          cc

      module _ (more : c ≡ all_taken → ⊥) where
        not-all : want r m ≡ all_taken → ⊥
        not-all e = more (wants ∙ e)

        onward : step_in span r m ≡ step_of r m
        onward = not-arriving (λ a b. not-all)

        pub astray_in : max_channels ≤ c → refused_of r ≡ step_in span r m
        astray_in past = sym (onward ∙ step-astray r m low d (omega arith) not-all)

        module _ (next : c < max_channels) {by : ℕ} (who : by ≡ get_or r.holders c 0) where
          who_is : by ≡ holder r (want r m)
          who_is = who ∙ ap (holder r) wants

          pub blocked_in : (by ≡ 0 → ⊥) → with r (Ok (Blocked (by - 1))) ≡ step_in span r m
          blocked_in h =
              ap (λ (x : ℕ). with r (Ok (Blocked (x - 1)))) who_is ∙ sym (onward ∙ step_blocked r m low d (omega arith) (λ q. h (who_is ∙ q)))

          pub moved_in : {moves : ℕ} {holders : List ℕ} {after : Record} → by ≡ 0 → moves ≡ counted r.moves → holders ≡ set r.holders c (m + 1)
              → after ≡ advanced (packed r.nodes r.messages moves r.labels r.free r.falling r.targets r.heads r.classes r.wants r.delivered holders) m
              → with after (Ok Moved) ≡ step_in span r m
          unfolding moved ahead_of advanced
          moved_in z count held on =
              let one = add-one m in
              let after = onward ∙ step-moved r m low d (omega arith) (sym who_is ∙ z) in
              cc

-- what is lent, and comes back: of the record that it made all that stays as it was
pub comes_back : {before after : Lent} → StaysLent before after
    → packed before.tables.nodes before.messages after.moves.now before.tables.labels.now before.tables.free.now before.tables.falling.now before.targets.now
    after.heads.now after.classes.now after.wants.now after.delivered.now after.holders.now
    ≡ made_of after
comes_back s = rw (s.tables, s.messages, s.targets) refl
