-- What each answer tells, RULES 8.3: "it takes that one channel", "blocked, by the number of that message", "it is delivered and gives back all its channels",
-- "No other answer changes the record."
use Rattle.std.specs.Prelude.{Ok, Err}
use mathlib.Core.Path.{◌≡◌, refl, sym, ◌∙◌, ap}
use mathlib.Core.Bool.{Bool, false}
use mathlib.Core.List.{List}
use mathlib.Core.Logic.{◌↔◌}
use Prim.Native.Nat.{ℕ, suc, ◌-◌, ◌<◌}
use native.Mathlib.Nat.{le_of_eq}
use native.Mathlib.Omega.{arith}
use Rattle.finite.proofs.Truth.{no_tf, same-eq}
use Rattle.lawful.specs.Turn.{label_in}
use Rattle.claims.specs.Claims.{Progress, holds, wanted, Exclusive}
use Rattle.refusal.specs.declared.Refusal.{Refusal}
use Rattle.refusal.specs.declared.Refusal.TheVariants.{Unknown}
use Rattle.claims.proofs.Holding.{holds-held}
use Rattle.claims.proofs.Waiting.{not_own}
use Rattle.hops.specs.Tabled.{Tabled}
use Rattle.messages.specs.declared.Record.{Record}
use Rattle.messages.specs.declared.Answer.TheVariants.{Moved, Blocked}
use Rattle.messages.specs.declared.Stepped.{Stepped}
use Rattle.messages.specs.Sizes.{max_channels}
use Rattle.messages.specs.Channels.{all_taken}
use Rattle.messages.specs.Step.{want, is_delivered, holder, moved, arrived, step_of}
use Rattle.messages.specs.Runs.{Listed, messages_in, itinerary_in, Reached, successful}
use Rattle.messages.specs.Tells.{keeps, Says, BlockedBy, Took, Arrived, Tells, MoveFault, no_message, none-next}
use Rattle.messages.proofs.Moves.{step-none, step-astray, Case, unknown, already, arrives, astray, waits, moves, step_case}
use Rattle.messages.proofs.Channels.{channel_rank}
use Rattle.messages.proofs.Changes.{released-here, released-other, moved-holder, moved_holders, arrived_holders}
use Rattle.messages.proofs.State.{State}
use Rattle.messages.proofs.Next.{all-taken, more-to-take, next-wanted}
use Rattle.messages.proofs.Total.{channels-rising}
use Rattle.messages.proofs.Tried.{known, unknown_high, not_done, holder-low, holder-holds}
use Rattle.messages.proofs.After.{moved-state, arrived-state}
use Rattle.messages.proofs.Reached.{reached_state}

-- RULES 8.3: "No other answer changes the record.", whatever record it is
pub unchanged : (r : Record) (m : ℕ) → successful (step_of r m).answer ≡ false → (step_of r m).«record» ≡ r
unchanged r m = go (step_case r m)
  where
    go : {x : Stepped} → Case r m x → successful x.answer ≡ false → x.«record» ≡ r
    go (unknown t) h = refl
    go (already l u) h = refl
    go (arrives l u e) h = no_tf refl h
    go (astray l u d e) h = refl
    go (waits l u d b) h = refl
    go (moves l u d z) h = no_tf refl h

-- RULES 8.3: "refused, with 10, where there is no such message, or no channel comes next for it", whatever record it is
pub move-refused-iff : (r : Record) (m : ℕ) (f : Refusal) → ((step_of r m).answer ≡ Err f) ↔ ((f ≡ Unknown 0) × MoveFault r m)
move-refused-iff r m f = (λ e. faulty (step_case r m) e, λ o. given o.1 ∙ ap Err (sym o.0))
  where
    given : MoveFault r m → (step_of r m).answer ≡ Err (Unknown 0)
    given (no_message l) = ap (λ (z : Stepped). z.answer) (step-none r m l)
    given (none-next l u d e) = ap (λ (z : Stepped). z.answer) (step-astray r m l u d e)

    faulty : {x : Stepped} → Case r m x → x.answer ≡ Err f → (f ≡ Unknown 0) × MoveFault r m
    faulty (unknown l) e = (cc, no_message l)
    faulty (already l u) e = let z : ◌≡◌ {A = ℕ} 0 1 = cc in absurd (omega arith)
    faulty (arrives l u h) e = no_tf refl (ap successful e)
    faulty (astray l u d h) e = (cc, none-next l u d h)
    faulty (waits l u d h) e = let z : ◌≡◌ {A = ℕ} 0 1 = cc in absurd (omega arith)
    faulty (moves l u d h) e = no_tf refl (ap successful e)

-- RULES 2.3: "One message to a channel": a channel has one holder in the record
pub one_message : {n : ℕ} {edge : ℕ → ℕ → Bool} {labels list : List ℕ} {r : Record} {s : Progress} → Says n edge labels list r s
    → Exclusive (messages_in list) (itinerary_in n edge labels list) keeps s
one_message says a b c i j x y =
    let p = same-eq _ _ (says.held c a i ∙ x) in
    let q = same-eq _ _ (says.held c b j ∙ y) in
    omega arith

module _ {n : ℕ} {edge : ℕ → ℕ → Bool} {labels free falling list : List ℕ} (tabled : Tabled n edge labels free falling) (listed : Listed n list) where
  abbrev k : ℕ
  k = messages_in list

  abbrev itinerary : ℕ → List ℕ
  itinerary = itinerary_in n edge labels list

  module _ {r : Record} {s : Progress} (state : State n edge labels free falling list r s) (m : ℕ) (low : m < k) (u : is_delivered r m ≡ false) where
    -- a message that waits, waits for another one
    waits_for : want r m < max_channels → (b : ℕ) → b < k → holder r (want r m) ≡ suc b → BlockedBy k r m b
    waits_for d b l e =
        let h = holder-holds tabled listed state m low d b l e in
        let own = not_own k itinerary keeps (channel_rank n (label_in labels)) s state.says.lawful (channels-rising tabled listed) m low (more-to-take tabled listed state m low d) in
        record {
          low = l;
          other = λ q. no_tf h (ap (λ (x : ℕ). holds itinerary keeps s x (wanted itinerary s m)) q ∙ own);
          undelivered = state.says.done b l ∙ (holds-held itinerary keeps s b _ h).not_done;
          holds_it = e;
        }

    takes_one : want r m < max_channels → holder r (want r m) ≡ 0 → Took n edge labels list r m (moved r m)
    takes_one d z = record {
      progress = s;
      before = state.says;
      more = more-to-take tabled listed state m low d;
      one = rw (sym (next-wanted tabled listed state m low d)) (record {
        free = z;
        taken = moved-holder r m (let b = state.kept.holders_size in omega arith);
        others = moved_holders r m;
      });
      then = (moved-state tabled listed state m low (not_done tabled listed state m low u) d z).says;
    }

    gives_back : want r m ≡ all_taken → Arrived n edge labels list r m (arrived r m)
    gives_back e =
        let last = (all-taken tabled listed state m low (le_of_eq (sym e))).0 in
        let h = arrived_holders r m state.kept.holders_size in
        record {
          progress = s;
          before = state.says;
          all = last;
          back = record {
            own = λ c q. h c ∙ released-here (holder r c) (suc m) q;
            others = λ c q. h c ∙ released-other (holder r c) (suc m) q;
          };
          then = (arrived-state tabled listed state m low (not_done tabled listed state m low u) last).says;
        }

  case_tells : {r : Record} {s : Progress} → State n edge labels free falling list r s → (m : ℕ) {x : Stepped} → Case r m x
      → Tells n edge labels list r m x.«record» x.answer
  case_tells state m (unknown t) = (unknown_high tabled listed state m t, refl, refl)
  case_tells state m (already l u) = (known tabled listed state m l, u, refl)
  case_tells state m (arrives l u e) = let low = known tabled listed state m l in (low, u, gives_back state m low u e)
  case_tells state m (astray l u d e) = absurd (e (all-taken tabled listed state m (known tabled listed state m l) d).1)
  case_tells {r} state m (waits l u d h) =
      let low = known tabled listed state m l in
      (low, u, waits_for state m low u d (holder r (want r m) - 1) (holder-low tabled listed state m h) (omega arith), refl)
  case_tells state m (moves l u d z) = let low = known tabled listed state m l in (low, u, takes_one state m low u d z)

  module _ {r : Record} (run : Reached n labels free falling list r) (m : ℕ) where
    pub each_answer : Tells n edge labels list r m (step_of r m).«record» (step_of r m).answer
    each_answer = case_tells (reached_state tabled listed run).1 m (step_case r m)

    pub one_channel : (step_of r m).answer ≡ Ok Moved → Took n edge labels list r m (step_of r m).«record»
    one_channel e = (rw e at each_answer).2

    pub blocked_by : (b : ℕ) → (step_of r m).answer ≡ Ok (Blocked b) → BlockedBy k r m b
    blocked_by b e = (rw e at each_answer).2
