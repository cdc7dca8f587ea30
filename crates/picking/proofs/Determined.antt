-- Any two answers that the promises of `pick` and `pick_in` allow are equal, arrays and all.
use mathlib.Core.Path.{◌≡◌, sym, ◌∙◌, ap}
use Prim.Native.Nat.{ℕ}
use Rattle.messages.specs.declared.Record.{Record}
use Rattle.picking.specs.declared.Picked.{Picked}
use Rattle.picking.specs.Order.{pick_of}
use Rattle.picking.specs.InPlace.{picked, pick_in}

pub pick_determined : (seed : ℕ) (r : Record) (x y : Picked) → x ≡ pick_of seed r → y ≡ pick_of seed r → x ≡ y
pick_determined seed r x y e f = e ∙ sym f

-- of `pick_in`: the seed, the place where it looked, the message, the count and every array that it changes
pub pick_in_determined : (span seed : ℕ) (r : Record) (s t look glance m k : ℕ) (x y : Record) → picked s look m x ≡ pick_in span seed r → picked t glance k y ≡ pick_in span seed r
    → (s ≡ t) × (look ≡ glance) × (m ≡ k)
    × (x.moves ≡ y.moves) × (x.heads ≡ y.heads) × (x.classes ≡ y.classes) × (x.wants ≡ y.wants) × (x.delivered ≡ y.delivered) × (x.holders ≡ y.holders)
pick_in_determined span seed r s t look glance m k x y p q =
    let e = p ∙ sym q in
    let f : x ≡ y = ap (λ (z : Picked). z.«record») e in (
      ap (λ (z : Picked). z.seed) e,
      ap (λ (z : Picked). z.look) e,
      ap (λ (z : Picked). z.message) e,
      ap (λ (z : Record). z.moves) f,
      ap (λ (z : Record). z.heads) f,
      ap (λ (z : Record). z.classes) f,
      ap (λ (z : Record). z.wants) f,
      ap (λ (z : Record). z.delivered) f,
      ap (λ (z : Record). z.holders) f,
    )
