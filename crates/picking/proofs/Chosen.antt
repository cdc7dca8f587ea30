-- The message that is chosen: the first that is ready from where it looks, going round; where one is ready, a ready one is chosen.
use mathlib.Core.Path.{◌≡◌, sym, ◌∙◌, ap}
use mathlib.Core.Bool.{Bool, true, false}
use Prim.Native.Nat.{ℕ, ◌+◌, ◌-◌, ◌%◌, ◌<◌}
use native.Mathlib.Nat.{le_refl, mod-lt, mod-eq_of_lt, add-mod_right}
use native.Mathlib.Omega.{arith}
use Rattle.finite.specs.Truth.{below}
use Rattle.finite.specs.Search.{Some, least}
use Rattle.finite.proofs.Truth.{bcase, below-lt, below-le, lt-below, le_below}
use Rattle.finite.proofs.Search.{least_unique, least-fact, least-before, least-found}
use Rattle.picking.specs.Order.{around, chosen_by}

-- every message is met on the way round
pub met : (n look m : ℕ) → look < n → m < n → (k : ℕ) × (k < n) × (around n look k ≡ m)
met n look m i j =
    bcase (below m look)
    (λ t.
    let l = below-lt _ _ t in
    let e : look + (m + n - look) ≡ m + n = omega arith in
    (m + n - look, omega arith, ap (λ (x : ℕ). x % n) e ∙ add-mod_right m n ∙ mod-eq_of_lt j))
    (λ t.
    let l = below-le _ _ t in
    let e : look + (m - look) ≡ m = omega arith in
    (m - look, omega arith, ap (λ (x : ℕ). x % n) e ∙ mod-eq_of_lt j))

module _ (n : ℕ) (ready : ℕ → Bool) (look : ℕ) where
  abbrev ready-around : ℕ → Bool
  ready-around k = ready (around n look k)

  pub chosen-here : (k : ℕ) → k < n → ready-around k ≡ true → ((j : ℕ) → j < k → ready-around j ≡ false) → around n look k ≡ chosen_by n ready look
  unfolding chosen_by
  chosen-here k l t first =
      let e = least_unique n ready-around k (omega arith) (λ i. t) first in
      rw (e, lt-below l, chosen_by, e)

  pub chosen_none : ((k : ℕ) → k < n → ready-around k ≡ false) → look ≡ chosen_by n ready look
  unfolding chosen_by
  chosen_none none = rw (least_unique n ready-around n (le_refl _) (λ i. absurd (omega arith)) none, le_below (le_refl n), chosen_by)

  -- of the messages that are ready one is chosen
  pub chosen-ready : look < n → Some n ready → (chosen_by n ready look < n) × (ready (chosen_by n ready look) ≡ true)
  chosen-ready i s =
      let at = met n look s.at i s.low in
      let k = at.1 in
      let f = least-found n ready-around at.0 (ap ready at.2 ∙ s.fact) in
      let l : least n ready-around < n = omega arith in
      let t = least-fact n ready-around l in
      let e = chosen-here (least n ready-around) l t (least-before n ready-around) in
      let m = mod-lt (look + least n ready-around) {m = n} (omega arith) in
      (omega arith, sym (ap ready e) ∙ t)

-- the same where the number of messages was counted before
module _ {n all : ℕ} (e : n ≡ all) (ready : ℕ → Bool) (look : ℕ) where
  pub counted-here : (k : ℕ) → k < n → ready (around n look k) ≡ true → ((j : ℕ) → j < k → ready (around n look j) ≡ false)
      → around n look k ≡ chosen_by all ready look
  counted-here k l t first = chosen-here n ready look k l t first ∙ ap (λ (x : ℕ). chosen_by x ready look) e

  pub counted_none : ((k : ℕ) → k < n → ready (around n look k) ≡ false) → look ≡ chosen_by all ready look
  counted_none none = chosen_none n ready look none ∙ ap (λ (x : ℕ). chosen_by x ready look) e
