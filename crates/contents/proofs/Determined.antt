-- Any two outcomes that a promise allows are equal: the answer, and the reader afterwards, its image and its number.
use mathlib.Core.Path.{◌≡◌, sym, ◌∙◌, ap}
use mathlib.Core.Bool.{Bool}
use mathlib.Core.List.{List}
use Rattle.std.proofs.Common.{Option}
use Prim.Native.Nat.{ℕ}
use denote.Ref.{Bor}
use Rattle.format.specs.declared.Entry.{Entry}
use Rattle.format.specs.Contents.{in_order}
use Rattle.contents.specs.declared.Reader.{Reader}
use Rattle.contents.specs.declared.Found.{Found}
use Rattle.contents.specs.Walking.{found_at, standing, step_from}

pub step-at_determined : (b : List ℕ) (i : ℕ) (x y : Found) → x ≡ found_at b i → y ≡ found_at b i → x ≡ y
step-at_determined b i x y p q = p ∙ sym q

pub new_determined : (image : Bor (List ℕ)) (x y : Reader) → x ≡ standing image 0 → y ≡ standing image 0 → x ≡ y
new_determined image x y p q = p ∙ sym q

pub step_determined : (old : Reader) (x y : Option Entry) (r s : Reader) → (x, r) ≡ step_from old → (y, s) ≡ step_from old → (x ≡ y) × (r ≡ s)
step_determined old x y r s p q =
    let e = p ∙ sym q in
    (ap (λ (z : Option Entry × Reader). z.0) e, ap (λ (z : Option Entry × Reader). z.1) e)

-- the same of a step on a reader that is made for one step
pub stepped_determined : (b : List ℕ) (i : ℕ) (x y : Found) → x ≡ found_at b i → y ≡ found_at b i → x ≡ y
stepped_determined = step-at_determined

pub in_order_determined : (b : List ℕ) (k : ℕ) (x y : Bool) → x ≡ in_order b k → y ≡ in_order b k → x ≡ y
in_order_determined b k x y p q = p ∙ sym q
