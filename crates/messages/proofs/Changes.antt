-- What a move changes in the record: of one message its head, its class, what it wants and one channel, or one mark and the channels of one message.
use mathlib.Core.Path.{◌≡◌, sym, ◌∙◌, ap}
use mathlib.Core.Bool.{true}
use Prim.Native.Nat.{ℕ, suc, ◌<◌}
use native.Mathlib.Omega.{arith}
use lib.ListN.{length, get_or-eq_default}
use lib.Seq.{get_or-set_same, get_or-set_other}
use Rattle.finite.specs.Truth.{non, same, below}
use Rattle.finite.proofs.Truth.{bcase, true-non, eq-same, ne_same, below-lt, below-le}
use Rattle.finite.proofs.Lists.{tabulate-at, tabulate_out}
use Rattle.messages.specs.Sizes.{max_channels}
use Rattle.messages.specs.declared.Record.{Record}
use Rattle.messages.specs.Step.{want, head, class, is_delivered, ahead_of, holder, released, moved, arrived}

pub released-here : (h holder : ℕ) → h ≡ holder → released holder h ≡ 0
unfolding released
released-here h holder e = rw (eq-same e, released)

pub released-other : (h holder : ℕ) → (h ≡ holder → ⊥) → released holder h ≡ h
unfolding released
released-other h holder d = rw (ne_same d, released)

module _ (r : Record) (m : ℕ) where
  pub moved_heads : (c : ℕ) → (m ≡ c → ⊥) → head (moved r m) c ≡ head r c
  unfolding moved
  moved_heads c d = get_or-set_other r.heads m c _ 0 (λ e. d (sym e))

  pub moved-head : m < length r.heads → head (moved r m) m ≡ (ahead_of r m).head
  unfolding moved
  moved-head l = get_or-set_same r.heads m _ 0 l

  pub moved_classes : (c : ℕ) → (m ≡ c → ⊥) → class (moved r m) c ≡ class r c
  unfolding moved
  moved_classes c d = get_or-set_other r.classes m c _ 0 (λ e. d (sym e))

  pub moved-class : m < length r.classes → class (moved r m) m ≡ (ahead_of r m).class
  unfolding moved
  moved-class l = get_or-set_same r.classes m _ 0 l

  pub moved-wants : (c : ℕ) → (m ≡ c → ⊥) → want (moved r m) c ≡ want r c
  unfolding moved
  moved-wants c d = get_or-set_other r.wants m c _ 0 (λ e. d (sym e))

  pub moved-want : m < length r.wants → want (moved r m) m ≡ (ahead_of r m).want
  unfolding moved
  moved-want l = get_or-set_same r.wants m _ 0 l

  pub moved_holders : (c : ℕ) → (want r m ≡ c → ⊥) → holder (moved r m) c ≡ holder r c
  unfolding moved
  moved_holders c d = get_or-set_other r.holders (want r m) c _ 0 (λ e. d (sym e))

  pub moved-holder : want r m < length r.holders → holder (moved r m) (want r m) ≡ suc m
  unfolding moved
  moved-holder l = get_or-set_same r.holders (want r m) _ 0 l

  pub arrived_marks : (c : ℕ) → (m ≡ c → ⊥) → is_delivered (arrived r m) c ≡ is_delivered r c
  unfolding arrived is_delivered
  arrived_marks c d = ap (λ (x : ℕ). non (same x 0)) (get_or-set_other r.delivered m c _ 0 (λ e. d (sym e)))

  pub arrived_mark : m < length r.delivered → is_delivered (arrived r m) m ≡ true
  unfolding arrived is_delivered
  arrived_mark l = ap (λ (x : ℕ). non (same x 0)) (get_or-set_same r.delivered m _ 0 l) ∙ true-non (ne_same (λ e. omega arith))

  pub arrived_holders : length r.holders ≡ max_channels → (c : ℕ) → holder (arrived r m) c ≡ released (suc m) (holder r c)
  unfolding arrived
  arrived_holders e c =
      bcase (below c max_channels) (λ t. tabulate-at max_channels _ c 0 (below-lt _ _ t))
      (λ t.
      let l = below-le _ _ t in
      let z : holder r c ≡ 0 = get_or-eq_default r.holders 0 (omega arith) in
      tabulate_out max_channels _ c 0 l ∙ sym (released-other 0 (suc m) (λ q. omega arith)) ∙ ap (released (suc m)) (sym z))
