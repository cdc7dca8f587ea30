-- A verdict is not both fine and a fault; and checks one after the other, case by case.
use Rattle.std.specs.Prelude.{Err, Ok}
use mathlib.Core.Path.{◌≡◌, refl}
use Prim.Native.Nat.{ℕ}
use native.Mathlib.Omega.{arith}
use Rattle.refusal.specs.declared.Refusal.{Refusal}
use Rattle.refusal.specs.Verdicts.{and_then, Verdict}

pub fine-fault {ℓ} : {A : Type ℓ} {v : Verdict} {r : Refusal} → v ≡ Ok tt → v ≡ Err r → A
fine-fault f h = let z : ◌≡◌ {A = ℕ} 0 1 = cc in absurd (omega arith)

pub then-fine : {v : Verdict} (w : Verdict) → v ≡ Ok tt → and_then v w ≡ w
unfolding and_then
then-fine w e = rw e

pub then-fault : {v : Verdict} (w : Verdict) {r : Refusal} → v ≡ Err r → and_then v w ≡ Err r
unfolding and_then
then-fault w e = rw e

pub and_then_fine : (v w : Verdict) → and_then v w ≡ Ok tt → (v ≡ Ok tt) × (w ≡ Ok tt)
unfolding and_then
and_then_fine (Ok _) w h = (refl, h)
and_then_fine (Err r) w h = fine-fault h refl
