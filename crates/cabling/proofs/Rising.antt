-- In a good cabling each pair is above every one before it, so no pair stands twice.
use mathlib.Core.Path.{◌≡◌, subst, sym}
use mathlib.Core.List.{List}
use mathlib.Core.Logic.{inl, inr, ⊎_elim}
use Prim.Native.Nat.{ℕ, zero, suc, ◌/◌, ◌<◌}
use native.Mathlib.Nat.{not-suc-le-zero}
use native.Mathlib.Numerals.{add-one}
use native.Mathlib.Omega.{arith}
use lib.ListN.{length}
use Rattle.finite.proofs.Decide.{by, decide_below, decide_same}
use Rattle.cabling.specs.Cabling.{Cabling, low_end, high_end, Above, Good}

above_trans : (pairs : List ℕ) (p q r : ℕ) → Above pairs p q → Above pairs q r → Above pairs p r
above_trans pairs p q r =
    ⊎_elim (λ x. ⊎_elim (λ y. inl (omega arith)) (λ y. let e = y.0 in inl (omega arith)))
    (λ x. let e = x.0 in let l = x.1 in ⊎_elim (λ y. inl (omega arith)) (λ y. let f = y.0 in let k = y.1 in inr (omega arith, omega arith)))

pub rising-above : {c : Cabling} → Good c → (p q : ℕ) → p < q → q < length c.pairs / 2 → Above c.pairs p q
rising-above g p zero l k = absurd (not-suc-le-zero l)
rising-above {c} g p (suc q) l k =
    let last : Above c.pairs q (suc q) = subst (Above c.pairs q) (add-one q) (g.rising q (omega arith)) in
    by (decide_same p q) (λ e. subst (λ (x : ℕ). Above c.pairs x (suc q)) (sym e) last)
    (λ d. above_trans c.pairs p q (suc q) (rising-above g p q (omega arith) (omega arith)) last)

pub rising-distinct : {c : Cabling} → Good c → (p q : ℕ) → p < length c.pairs / 2 → q < length c.pairs / 2
    → low_end c.pairs p ≡ low_end c.pairs q → high_end c.pairs p ≡ high_end c.pairs q → p ≡ q
rising-distinct {c} g p q k l e f =
    by (decide_below p q) (λ h. absurd (differ p q (rising-above g p q h l) e f))
    (λ h.
    by (decide_below q p) (λ i. absurd (differ q p (rising-above g q p i k) (sym e) (sym f))) (λ i. omega arith))
  where
    differ : (p q : ℕ) → Above c.pairs p q → low_end c.pairs p ≡ low_end c.pairs q → high_end c.pairs p ≡ high_end c.pairs q → ⊥
    differ p q a e f = ⊎_elim (λ x. omega arith) (λ x. let y = x.1 in omega arith) a
