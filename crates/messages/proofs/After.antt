-- A move leads from a state to a state: taking a channel is the claims' taking, a delivery their finishing.
use mathlib.Core.Path.{◌≡◌, refl, sym, ◌∙◌, ap}
use mathlib.Core.Bool.{Bool, false}
use mathlib.Core.List.{List}
use Prim.Native.Nat.{ℕ, suc, ◌<◌}
use native.Mathlib.Omega.{arith}
use lib.ListN.{length, get_or, length-set}
use Rattle.finite.specs.Truth.{◌or◌, same}
use Rattle.finite.proofs.Truth.{bcase, or_l, or_false, same-eq, same-ne, eq-same, ne_same}
use Rattle.finite.proofs.Lists.{tabulate-length}
use Rattle.claims.specs.Claims.{Progress, Keeping, holds, wanted, taking, finishing, made}
use Rattle.claims.proofs.Counting.{made-le}
use Rattle.claims.proofs.Taking.{taken_here, taken-there, taking-done, taking-made, taking-other, taking-kept, taking-lawful}
use Rattle.claims.proofs.Finishing.{done-here, done-there, finishing-made, finishing-other, finishing-free, finishing-lawful}
use Rattle.hops.specs.Tabled.{class_of, Tabled}
use Rattle.messages.specs.Sizes.{max_messages, max_channels}
use Rattle.messages.specs.Channels.{all_taken}
use Rattle.messages.specs.declared.Record.{Record}
use Rattle.messages.specs.Step.{want, head, class, is_delivered, holder, counted, released, moved, arrived}
use Rattle.messages.specs.Runs.{Listed, messages_in, itinerary_in}
use Rattle.messages.specs.Tells.{keeps, Says}
use Rattle.messages.proofs.Changes.{released-here, released-other, moved-head, moved_heads, moved-class, moved_classes, moved-want, moved-wants, moved-holder, moved_holders, arrived_mark, arrived_marks, arrived_holders}
use Rattle.messages.proofs.State.{Kept, is_channel_free, free-is, OnRoute, hops_to, State, few-messages}
use Rattle.messages.proofs.Next.{Behind, more-to-take, next-wanted, behind}
use Rattle.messages.proofs.Total.{all-moves-small, all-moves-whole}

-- nothing is given back on the way
all-kept : Keeping keeps
all-kept = record { new = λ m j. refl; old = λ m i j h. refl }

-- ---- what no move changes

module _ {n : ℕ} {labels free falling list : List ℕ} {r : Record} (m : ℕ) (kept : Kept n labels free falling list r) where
  moved-kept : Kept n labels free falling list (moved r m)
  unfolding moved
  moved-kept = record {
    nodes = kept.nodes;
    messages = kept.messages;
    labels_are = kept.labels_are;
    free_are = kept.free_are;
    falling_are = kept.falling_are;
    targets = kept.targets;
    heads_size = length-set r.heads m _ ∙ kept.heads_size;
    classes_size = length-set r.classes m _ ∙ kept.classes_size;
    wants-size = length-set r.wants m _ ∙ kept.wants-size;
    delivered_size = kept.delivered_size;
    holders_size = length-set r.holders _ _ ∙ kept.holders_size;
  }

  arrived-kept : Kept n labels free falling list (arrived r m)
  unfolding arrived
  arrived-kept = record {
    nodes = kept.nodes;
    messages = kept.messages;
    labels_are = kept.labels_are;
    free_are = kept.free_are;
    falling_are = kept.falling_are;
    targets = kept.targets;
    heads_size = kept.heads_size;
    classes_size = kept.classes_size;
    wants-size = kept.wants-size;
    delivered_size = length-set r.delivered m _ ∙ kept.delivered_size;
    holders_size = tabulate-length max_channels _;
  }

module _ {n : ℕ} {edge : ℕ → ℕ → Bool} {labels free falling list : List ℕ} (tabled : Tabled n edge labels free falling) (listed : Listed n list)
    {r : Record} {s : Progress} (state : State n edge labels free falling list r s) (m : ℕ) (low : m < messages_in list) (fresh : s.done m ≡ false) where
  abbrev k : ℕ
  k = messages_in list

  abbrev itinerary : ℕ → List ℕ
  itinerary = itinerary_in n edge labels list

  abbrev OnIt : ℕ → ℕ → Bool → ℕ → Type 0
  OnIt = OnRoute n edge labels list

  -- message m has a place in every array of 256
  placed : {size : ℕ} → size ≡ max_messages → m < size
  placed e = let b = few-messages tabled listed in omega arith

  -- the count is not full
  count-one : counted r.moves ≡ suc (made k s)
  count-one =
      let c = state.says.count in
      let b = made-le k itinerary s state.says.lawful in
      let w = all-moves-whole tabled listed in
      let l = all-moves-small tabled listed in
      omega arith

  -- a fact of every message, from that of message m and those of the others
  by_message {ℓ} : (P : ℕ → Type ℓ) → P m → ((c : ℕ) → (m ≡ c → ⊥) → P c) → (c : ℕ) → P c
  by_message P here there c = bcase (same m c) (λ t. rw (sym (same-eq m c t)) here) (λ t. there c (same-ne m c t))

  -- ---- it took its next channel

  module _ (d : want r m < max_channels) (free-channel : holder r (want r m) ≡ 0) where
    abbrev ahead : Progress
    ahead = taking s m

    more : s.taken m < length (itinerary m)
    more = more-to-take tabled listed state m low d

    next : Behind n edge labels list r s m
    next = behind tabled listed state m low more

    chosen : (c : ℕ) → want r m ≡ c → holder (moved r m) c ≡ suc m
    chosen c e = ap (holder (moved r m)) (sym e) ∙ moved-holder r m (let b = state.kept.holders_size in omega arith)

    -- by the claims it holds that one and what it held
    took : (c : ℕ) → holds itinerary keeps ahead m c ≡ same (wanted itinerary s m) c or holds itinerary keeps s m c
    took = taking-kept itinerary keeps s m all-kept fresh (λ i l. refl)

    held-here : (c : ℕ) → same (holder (moved r m) c) (suc m) ≡ holds itinerary keeps ahead m c
    held-here c =
        let w = next-wanted tabled listed state m low d in
        bcase (same (want r m) c)
        (λ t.
        let e = same-eq _ _ t in
        eq-same (chosen c e) ∙ sym (took c ∙ or_l _ (eq-same (sym w ∙ e))))
        (λ t.
        let e = same-ne _ _ t in
        ap (λ (h : ℕ). same h (suc m)) (moved_holders r m c e) ∙ state.says.held c m low
        ∙ sym (took c ∙ ap (λ (x : Bool). x or holds itinerary keeps s m c) (ne_same (λ q. e (w ∙ q))) ∙ or_false _))

    held-there : (b c : ℕ) → (m ≡ b → ⊥) → b < k → same (holder (moved r m) c) (suc b) ≡ holds itinerary keeps ahead b c
    held-there b c e l =
        let old = state.says.held c b l ∙ sym (taking-other itinerary keeps s m b c e) in
        bcase (same (want r m) c)
        (λ t.
        let q = same-eq _ _ t in
        let h = chosen c q in
        let z : holder r c ≡ 0 = ap (holder r) (sym q) ∙ free-channel in
        ne_same (λ x. e (omega arith)) ∙ sym (ne_same (λ x. omega arith)) ∙ old)
        (λ t. ap (λ (h : ℕ). same h (suc b)) (moved_holders r m c (same-ne _ _ t)) ∙ old)

    moved-next : (c : ℕ) → c < k → want (moved r m) c ≡ get_or (itinerary c) (ahead.taken c) all_taken
    moved-next =
        by_message (λ c. c < k → want (moved r m) c ≡ get_or (itinerary c) (ahead.taken c) all_taken)
        (λ l. rw (taken_here s m) (moved-want r m (placed state.kept.wants-size) ∙ next.want_is))
        (λ c e l. rw (taken-there s m c e) (moved-wants r m c e ∙ state.says.wants c l))

    moved-done : (c : ℕ) → c < k → is_delivered (moved r m) c ≡ ahead.done c
    unfolding moved is_delivered
    moved-done c l = state.says.done c l ∙ sym (taking-done s m c)

    moved-count : (moved r m).moves ≡ made k ahead
    unfolding moved
    moved-count = count-one ∙ sym (taking-made s m k low)

    moved-says : Says n edge labels list (moved r m) ahead
    moved-says = record {
      lawful = taking-lawful itinerary s m k state.says.lawful fresh more;
      wants = moved-next;
      done = moved-done;
      held = λ c b. by_message (λ b. b < k → same (holder (moved r m) c) (suc b) ≡ holds itinerary keeps ahead b c) (λ l. held-here c) (λ b e. held-there b c e) b;
      owners = λ c.
          bcase (same (want r m) c) (λ t. let h = chosen c (same-eq _ _ t) in omega arith)
          (λ t. let h = moved_holders r m c (same-ne _ _ t) in let o = state.says.owners c in omega arith);
      count = moved-count;
    }

    -- the class that the machine writes is that behind the channel
    moved-class-is : class (moved r m) m ≡ class_of next.class-then
    moved-class-is = moved-class r m (placed state.kept.classes_size) ∙ next.class-is

    moved-free : is_channel_free (moved r m) m ≡ next.class-then
    moved-free = free-is (moved r m) m moved-class-is

    moved_same : (c : ℕ) → (m ≡ c → ⊥) → is_channel_free (moved r m) c ≡ is_channel_free r c
    unfolding is_channel_free
    moved_same c e = ap (λ (x : ℕ). same x 0) (moved_classes r m c e)

    moved-way : (c : ℕ) → c < k → OnIt c (hops_to n edge labels list c (ahead.taken c)) (is_channel_free (moved r m) c) (head (moved r m) c)
    moved-way =
        by_message (λ c. c < k → OnIt c (hops_to n edge labels list c (ahead.taken c)) (is_channel_free (moved r m) c) (head (moved r m) c))
        (λ l. rw (taken_here s m, moved-free, moved-head r m (placed state.kept.heads_size)) next.way)
        (λ c e l. rw (taken-there s m c e, moved_same c e, moved_heads r m c e) (state.way c l))

    moved-classed : (c : ℕ) → c < k → class (moved r m) c ≡ class_of (is_channel_free (moved r m) c)
    moved-classed =
        by_message (λ c. c < k → class (moved r m) c ≡ class_of (is_channel_free (moved r m) c))
        (λ l. moved-class-is ∙ ap class_of (sym moved-free))
        (λ c e l. moved_classes r m c e ∙ state.classed c l ∙ ap class_of (sym (moved_same c e)))

    pub moved-state : State n edge labels free falling list (moved r m) (taking s m)
    moved-state = record { says = moved-says; kept = moved-kept m state.kept; way = moved-way; classed = moved-classed }

  -- ---- it is delivered

  module _ (last : s.taken m ≡ length (itinerary_in n edge labels list m)) where
    abbrev ended : Progress
    ended = finishing s m

    left-holder : (c : ℕ) → holder (arrived r m) c ≡ released (suc m) (holder r c)
    left-holder = arrived_holders r m state.kept.holders_size

    -- what it held is free, the rest as it was
    left_case {ℓ} : {A : Type ℓ} (c : ℕ) → (holder r c ≡ suc m → holder (arrived r m) c ≡ 0 → A)
        → ((holder r c ≡ suc m → ⊥) → holder (arrived r m) c ≡ holder r c → A) → A
    left_case c f g =
        bcase (same (holder r c) (suc m))
        (λ t. let e = same-eq _ _ t in f e (left-holder c ∙ released-here (holder r c) (suc m) e))
        (λ t. let e = same-ne _ _ t in g e (left-holder c ∙ released-other (holder r c) (suc m) e))

    gone-here : (c : ℕ) → same (holder (arrived r m) c) (suc m) ≡ holds itinerary keeps ended m c
    gone-here c =
        left_case c (λ e z. ne_same (λ q. omega arith)) (λ e z. ne_same (λ q. e (sym z ∙ q))) ∙ sym (finishing-free itinerary keeps s m c)

    gone-there : (b c : ℕ) → (m ≡ b → ⊥) → b < k → same (holder (arrived r m) c) (suc b) ≡ holds itinerary keeps ended b c
    gone-there b c e l =
        left_case c (λ h z. ne_same (λ q. omega arith) ∙ sym (ne_same (λ q. e (omega arith)))) (λ h z. ap (λ (x : ℕ). same x (suc b)) z)
        ∙ state.says.held c b l ∙ sym (finishing-other itinerary keeps s m b c e)

    arrived-next : (c : ℕ) → c < k → want (arrived r m) c ≡ get_or (itinerary c) (ended.taken c) all_taken
    unfolding arrived finishing
    arrived-next = state.says.wants

    arrived-done : (c : ℕ) → c < k → is_delivered (arrived r m) c ≡ ended.done c
    arrived-done =
        by_message (λ c. c < k → is_delivered (arrived r m) c ≡ ended.done c)
        (λ l. arrived_mark r m (placed state.kept.delivered_size) ∙ sym (done-here s m))
        (λ c e l. arrived_marks r m c e ∙ state.says.done c l ∙ sym (done-there s m c e))

    arrived-count : (arrived r m).moves ≡ made k ended
    unfolding arrived
    arrived-count = count-one ∙ sym (finishing-made s m k low fresh)

    arrived-says : Says n edge labels list (arrived r m) ended
    arrived-says = record {
      lawful = finishing-lawful itinerary s m k state.says.lawful last;
      wants = arrived-next;
      done = arrived-done;
      held = λ c b. by_message (λ b. b < k → same (holder (arrived r m) c) (suc b) ≡ holds itinerary keeps ended b c) (λ l. gone-here c) (λ b e. gone-there b c e) b;
      owners = λ c. let o = state.says.owners c in left_case c (λ e z. omega arith) (λ e z. omega arith);
      count = arrived-count;
    }

    arrived-way : (c : ℕ) → c < k → OnIt c (hops_to n edge labels list c (ended.taken c)) (is_channel_free (arrived r m) c) (head (arrived r m) c)
    unfolding arrived finishing is_channel_free
    arrived-way = state.way

    arrived-classed : (c : ℕ) → c < k → class (arrived r m) c ≡ class_of (is_channel_free (arrived r m) c)
    unfolding arrived is_channel_free
    arrived-classed = state.classed

    pub arrived-state : State n edge labels free falling list (arrived r m) (finishing s m)
    arrived-state = record { says = arrived-says; kept = arrived-kept m state.kept; way = arrived-way; classed = arrived-classed }
