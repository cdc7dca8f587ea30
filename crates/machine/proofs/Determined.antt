-- The promises of `step_in` and of what is asked of lent arrays determine every answer: any two outcomes that they allow are equal.
use mathlib.Core.Path.{◌≡◌, sym, ◌∙◌, ap}
use mathlib.Core.Bool.{Bool}
use mathlib.Core.List.{List}
use Prim.Native.Nat.{ℕ, min}
use lib.ListN.{get_or}
use Rattle.finite.specs.Truth.{non, same}
use Rattle.finite.specs.Search.{all}
use Rattle.messages.specs.Sizes.{max_messages}
use Rattle.messages.specs.Channels.{injection}
use Rattle.messages.specs.declared.Record.{Record}
use Rattle.messages.specs.declared.Stepped.{Stepped}
use Rattle.messages.specs.Step.{MoveAnswer, with}
use Rattle.messages.specs.Ready.{ready_at}
use Rattle.machine.specs.InPlace.{step_in}

-- of `step_in`: the answer, the count and every array that it changes
pub step_in_determined : (span : ℕ) (r : Record) (m : ℕ) (x y : Record) (a b : MoveAnswer) → with x a ≡ step_in span r m → with y b ≡ step_in span r m
    → (a ≡ b) × (x.moves ≡ y.moves) × (x.heads ≡ y.heads) × (x.classes ≡ y.classes) × (x.wants ≡ y.wants) × (x.delivered ≡ y.delivered) × (x.holders ≡ y.holders)
step_in_determined span r m x y a b p q =
    let e = p ∙ sym q in
    let f : x ≡ y = ap (λ (z : Stepped). z.«record») e in (
      ap (λ (z : Stepped). z.answer) e,
      ap (λ (z : Record). z.moves) f,
      ap (λ (z : Record). z.heads) f,
      ap (λ (z : Record). z.classes) f,
      ap (λ (z : Record). z.wants) f,
      ap (λ (z : Record). z.delivered) f,
      ap (λ (z : Record). z.holders) f,
    )

-- of `is_ready`
pub ready_determined : (wants delivered holders : List ℕ) (m : ℕ) (x y : Bool) → x ≡ ready_at wants delivered holders m → y ≡ ready_at wants delivered holders m → x ≡ y
ready_determined wants delivered holders m x y p q = p ∙ sym q

pub all_delivered_in_determined : (messages : ℕ) (delivered : List ℕ) (x y : Bool) → x ≡ all (min messages max_messages) (λ m. non (same (get_or delivered m 0) 0))
    → y ≡ all (min messages max_messages) (λ m. non (same (get_or delivered m 0) 0)) → x ≡ y
all_delivered_in_determined messages delivered x y p q = p ∙ sym q

pub few_determined : (n x y : ℕ) → x ≡ min n max_messages → y ≡ min n max_messages → x ≡ y
few_determined n x y p q = p ∙ sym q

pub injection_determined : (node x y : ℕ) → x ≡ injection node → y ≡ injection node → x ≡ y
injection_determined node x y p q = p ∙ sym q
