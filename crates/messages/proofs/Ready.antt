-- A message is ready exactly when a move of it succeeds; while some message of a run is undelivered one of them is ready.
use mathlib.Core.Path.{◌≡◌, refl, sym, ◌∙◌, ap}
use mathlib.Core.Bool.{Bool, true, false}
use mathlib.Core.List.{List}
use mathlib.Core.Logic.{⊎_elim}
use Prim.Native.Nat.{ℕ, ◌≤◌, ◌<◌}
use native.Mathlib.Omega.{arith}
use lib.ListN.{get_or}
use Rattle.finite.specs.Truth.{◌&◌, ◌or◌, non, same}
use Rattle.finite.specs.Search.{Some}
use Rattle.finite.proofs.Truth.{no_tf, non-true, non-false, eq-same, ne_same, lt-below, le_below}
use Rattle.finite.proofs.Search.{find, every_all, all_every}
use Rattle.hops.specs.Tabled.{Tabled}
use Rattle.messages.specs.declared.Record.{Record}
use Rattle.messages.specs.declared.Stepped.{Stepped}
use Rattle.messages.specs.Sizes.{max_channels}
use Rattle.messages.specs.Channels.{all_taken}
use Rattle.messages.specs.Step.{want, is_delivered, holder, unheld_in, step_of}
use Rattle.messages.specs.Runs.{Listed, messages_in, Reached, successful}
use Rattle.messages.specs.Ready.{messages_of, ready_in, ready, all_delivered}
use Rattle.messages.proofs.Moves.{Case, unknown, already, arrives, astray, waits, moves, step_case}
use Rattle.messages.proofs.State.{few-messages}
use Rattle.messages.proofs.Reached.{reached_state}
use Rattle.messages.proofs.Drain.{progress}

module _ (holders : List ℕ) (want mark : ℕ) where
  pub in_never : same mark 0 ≡ false → false ≡ ready_in holders want mark
  unfolding ready_in ◌&◌
  in_never d = rw (d, ready_in)

  module _ (d : same mark 0 ≡ true) {c : ℕ} (is : c ≡ want) where
    pub in_home : c ≡ all_taken → true ≡ ready_in holders want mark
    unfolding ready_in ◌&◌ ◌or◌
    in_home e = rw (d, ready_in, eq-same (sym is ∙ e))

    module _ (e : c ≡ all_taken → ⊥) where
      pub in_astray : max_channels ≤ c → false ≡ ready_in holders want mark
      unfolding ready_in ◌&◌ ◌or◌
      in_astray past = let p : max_channels ≤ want = omega arith in rw (d, ready_in, ne_same (λ q. e (is ∙ q)), le_below p)

      pub in_next : c < max_channels → {h : ℕ} → h ≡ get_or holders c 0 → same h 0 ≡ ready_in holders want mark
      unfolding ready_in unheld_in ◌&◌ ◌or◌
      in_next l who = let p : want < max_channels = omega arith in rw (d, ready_in, ne_same (λ q. e (is ∙ q)), lt-below p) (ap (λ (x : ℕ). same x 0) (who ∙ ap (λ (x : ℕ). get_or holders x 0) is))

module _ (r : Record) (m : ℕ) where
  ready-never : is_delivered r m ≡ true → false ≡ ready r m
  unfolding ready is_delivered
  ready-never d = in_never _ _ _ (non-true _ d)

  module _ (d : is_delivered r m ≡ false) where
    ready_home : want r m ≡ all_taken → true ≡ ready r m
    unfolding ready is_delivered
    ready_home e = in_home _ _ _ (non-false _ d) refl e

    ready-astray : max_channels ≤ want r m → (want r m ≡ all_taken → ⊥) → false ≡ ready r m
    unfolding ready is_delivered
    ready-astray past e = in_astray _ _ _ (non-false _ d) refl e past

    ready-next : want r m < max_channels → same (holder r (want r m)) 0 ≡ ready r m
    unfolding ready is_delivered
    ready-next l = in_next _ _ _ (non-false _ d) refl (λ e. omega arith) l refl

  -- ready: a move of it is successful
  pub ready-moves : m < messages_of r → ready r m ≡ successful (step_of r m).answer
  ready-moves l = go (step_case r m)
    where
      go : {x : Stepped} → Case r m x → ready r m ≡ successful x.answer
      go (unknown k) = absurd (omega arith)
      go (already k u) = sym (ready-never u)
      go (arrives k u e) = sym (ready_home u e)
      go (astray k u d e) = sym (ready-astray u d e)
      go (waits k u d b) = sym (ready-next u d) ∙ ne_same b
      go (moves k u d z) = sym (ready-next u d) ∙ eq-same z

-- all are delivered, or one is not
pub every_delivered : (r : Record) → ((m : ℕ) → m < messages_of r → is_delivered r m ≡ true) → true ≡ all_delivered r
unfolding all_delivered
every_delivered r h = sym (every_all _ _ h)

pub delivered_every : (r : Record) → all_delivered r ≡ true → (m : ℕ) → m < messages_of r → is_delivered r m ≡ true
unfolding all_delivered
delivered_every r h = all_every _ _ h

-- the records of a run have the messages of the list, and while one is undelivered one is ready
module _ {n : ℕ} {edge : ℕ → ℕ → Bool} {labels free falling list : List ℕ} (tabled : Tabled n edge labels free falling) (listed : Listed n list)
    {r : Record} (run : Reached n labels free falling list r) where
  pub messages-listed : messages_of r ≡ messages_in list
  messages-listed = let e = (reached_state tabled listed run).1.kept.messages in let f = few-messages tabled listed in omega arith

  pub one-ready : all_delivered r ≡ false → Some (messages_of r) (ready r)
  one-ready h =
      ⊎_elim
      (λ s.
      let e = messages-listed in
      let k = s.low in
      let p = progress tabled listed run (record { at = s.at; low = omega arith; fact = s.fact }) in
      let l = p.low in
      let b : p.at < messages_of r = omega arith in
      record { at = p.at; low = b; fact = ready-moves r p.at b ∙ p.fact })
      (λ none. no_tf (sym (every_delivered r (λ m l. non-false _ (none m l)))) h)
      (find (messages_of r) (λ m. non (is_delivered r m)))
