-- The promises of `step`, `begun`, `blank` and `all_delivered` determine every answer: any two outcomes that they allow are equal.
use mathlib.Core.Path.{◌≡◌, sym, ◌∙◌, ap}
use mathlib.Core.Bool.{Bool}
use mathlib.Core.List.{List}
use Prim.Native.Nat.{ℕ}
use Rattle.messages.specs.declared.Record.{Record}
use Rattle.messages.specs.declared.Stepped.{Stepped}
use Rattle.messages.specs.Step.{step_of}
use Rattle.messages.specs.Fresh.{begun_of, blank_record}
use Rattle.messages.specs.Ready.{all_delivered}

pub step_determined : (r : Record) (m : ℕ) (x y : Stepped) → x ≡ step_of r m → y ≡ step_of r m → (x.answer ≡ y.answer) × (x.«record» ≡ y.«record»)
step_determined r m x y p q = let e = p ∙ sym q in (ap (λ (z : Stepped). z.answer) e, ap (λ (z : Stepped). z.«record») e)

pub begun_determined : (n : ℕ) (labels free falling list : List ℕ) (x y : Record) → x ≡ begun_of n labels free falling list → y ≡ begun_of n labels free falling list → x ≡ y
begun_determined n labels free falling list x y p q = p ∙ sym q

pub blank_determined : (x y : Record) → x ≡ blank_record → y ≡ blank_record → x ≡ y
blank_determined x y p q = p ∙ sym q

pub all_delivered_determined : (r : Record) (x y : Bool) → x ≡ all_delivered r → y ≡ all_delivered r → x ≡ y
all_delivered_determined r x y p q = p ∙ sym q
