-- One turn of multiplication by doubling keeps the sum and what is left of the product, modulo any w.
use Rattle.std.proofs.Common.{◌≡◌, ℕ, ◌+◌, ◌*◌, ◌/◌, ◌%◌, sym, ap, ◌∙◌, mul_assoc, add-mul, div-add-mod', arith}
use native.Mathlib.Nat.{div-add-mod, mul-add-mod_self_left, mod-add-mod, add-mod-mod}

mod-mul-left : (w x y : ℕ) → x % w * y % w ≡ x * y % w
mod-mul-left w x y =
    sym (ap (λ (z : ℕ). z * y % w) (sym (div-add-mod x w)) ∙ ap (λ (z : ℕ). z % w) (add-mul (w * (x / w)) (x % w) y)
    ∙ ap (λ (z : ℕ). (z + x % w * y) % w) (mul_assoc w (x / w) y) ∙ mul-add-mod_self_left w (x / w * y) (x % w * y))

pub doubling : (w sum term left : ℕ) → ((sum + left % 2 * term) % w + (term + term) % w * (left / 2)) % w ≡ (sum + term * left) % w
doubling w sum term left =
    let a : ℕ = sum + left % 2 * term in
    let q : ℕ = left / 2 in
    let whole : a + (term + term) * q ≡ sum + term * left =
    let e = ap (λ (x : ℕ). term * x) (div-add-mod' left 2) in omega arith in
    mod-add-mod a w ((term + term) % w * q) ∙ sym (add-mod-mod a ((term + term) % w * q) w)
    ∙ ap (λ (x : ℕ). (a + x) % w) (mod-mul-left w (term + term) q) ∙ add-mod-mod a ((term + term) * q) w ∙ ap (λ (x : ℕ). x % w) whole
