-- Laws of tests: how a fact about a connective is made, taken apart and refuted.
use mathlib.Core.Path.{◌≡◌, refl, sym, ◌∙◌}
use mathlib.Core.Bool.{Bool, true, false, not, true≢false}
use Prim.Native.Nat.{ℕ, ◌+◌, ◌<◌, ◌≤◌}
use native.Mathlib.Omega.{arith}
use borrow.Author.Tests.{lt-ltb, le-ltb, ltb-true, ltb-false, eq-eqb, ne_eqb, eqb-true, eqb-false}
use Rattle.finite.specs.Truth.{◌&◌, ◌or◌, non, same, below}

-- a test that both passes and fails
pub no_tf {ℓ} : {A : Type ℓ} {b : Bool} → b ≡ true → b ≡ false → A
no_tf t f = absurd (true≢false (sym t ∙ f))

-- by cases on a test, its equation kept
pub bcase {ℓ} : {A : Type ℓ} (b : Bool) → (b ≡ true → A) → (b ≡ false → A) → A
bcase true t f = t refl
bcase false t f = f refl

pub both : {a b : Bool} → a ≡ true → b ≡ true → a & b ≡ true
unfolding ◌&◌
both {a = true} p q = q
both {a = false} p q = p

pub and_l : (a b : Bool) → a & b ≡ true → a ≡ true
unfolding ◌&◌
and_l true b h = refl
and_l false b h = h

pub and_r : (a b : Bool) → a & b ≡ true → b ≡ true
unfolding ◌&◌
and_r true b h = h
and_r false b h = no_tf h refl

pub and_true : (b : Bool) → true & b ≡ b
unfolding ◌&◌
and_true b = refl

pub and_false : (b : Bool) → false & b ≡ false
unfolding ◌&◌
and_false b = refl

pub true_and : (a : Bool) → a & true ≡ a
unfolding ◌&◌
true_and true = refl
true_and false = refl

pub false_and : (a : Bool) → a & false ≡ false
unfolding ◌&◌
false_and true = refl
false_and false = refl

pub and_comm : (a b : Bool) → a & b ≡ b & a
unfolding ◌&◌
and_comm true true = refl
and_comm true false = refl
and_comm false true = refl
and_comm false false = refl

pub or_l : {a : Bool} (b : Bool) → a ≡ true → a or b ≡ true
unfolding ◌or◌
or_l {a = true} b h = refl
or_l {a = false} b h = no_tf h refl

pub or_r : (a : Bool) {b : Bool} → b ≡ true → a or b ≡ true
unfolding ◌or◌
or_r true h = refl
or_r false h = h

pub or_case {ℓ} : {A : Type ℓ} (a b : Bool) → a or b ≡ true → (a ≡ true → A) → (b ≡ true → A) → A
unfolding ◌or◌
or_case true b h f g = f refl
or_case false b h f g = g h

pub or_false : (b : Bool) → false or b ≡ b
unfolding ◌or◌
or_false b = refl

pub false_or : (a : Bool) → a or false ≡ a
unfolding ◌or◌
false_or true = refl
false_or false = refl

pub non-true : (b : Bool) → non b ≡ true → b ≡ false
unfolding non
non-true true h = no_tf h refl
non-true false h = refl

pub non-false : (b : Bool) → non b ≡ false → b ≡ true
unfolding non
non-false true h = refl
non-false false h = no_tf refl h

pub true-non : {b : Bool} → b ≡ false → non b ≡ true
unfolding non
true-non {b = true} h = no_tf refl h
true-non {b = false} h = refl

pub false-non : {b : Bool} → b ≡ true → non b ≡ false
unfolding non
false-non {b = true} h = refl
false-non {b = false} h = sym h

-- the code's `!`
pub not-non : (b : Bool) → not b ≡ non b
unfolding non
not-non true = refl
not-non false = refl

-- two tests that pass together are equal
pub iff : (a b : Bool) → (a ≡ true → b ≡ true) → (b ≡ true → a ≡ true) → a ≡ b
iff true b f g = sym (f refl)
iff false true f g = g refl
iff false false f g = refl

-- a test that can't pass fails
pub refute : (b : Bool) → (b ≡ true → ⊥) → b ≡ false
refute true h = absurd (h refl)
refute false h = refl

-- what is not among the first is all that the second adds
pub or_anew : (a b : Bool) → a or (b & non a) ≡ a or b
or_anew a b =
    iff _ _ (λ h. or_case _ _ h (or_l b) (λ t. or_r a (and_l _ _ t)))
    (λ h. or_case _ _ h (or_l _) (λ t. bcase a (or_l _) (λ f. or_r a (both t (true-non f)))))

pub same-eq : (a b : ℕ) → same a b ≡ true → a ≡ b
unfolding same
same-eq a b h = eqb-true a b h

pub same-ne : (a b : ℕ) → same a b ≡ false → a ≡ b → ⊥
unfolding same
same-ne a b h = eqb-false a b h

pub eq-same : {a b : ℕ} → a ≡ b → same a b ≡ true
unfolding same
eq-same {a} {b} h = eq-eqb a b h

pub ne_same : {a b : ℕ} → (a ≡ b → ⊥) → same a b ≡ false
unfolding same
ne_same {a} {b} h = ne_eqb a b h

pub same_refl : (a : ℕ) → same a a ≡ true
same_refl a = eq-same refl

pub same_comm : (a b : ℕ) → same a b ≡ same b a
same_comm a b = iff _ _ (λ h. eq-same (sym (same-eq a b h))) (λ h. eq-same (sym (same-eq b a h)))

pub below-lt : (a b : ℕ) → below a b ≡ true → a < b
unfolding below
below-lt a b h = ltb-true a b h

pub below-le : (a b : ℕ) → below a b ≡ false → b ≤ a
unfolding below
below-le a b h = ltb-false a b h

pub lt-below : {a b : ℕ} → a < b → below a b ≡ true
unfolding below
lt-below {a} {b} h = lt-ltb a b h

pub le_below : {a b : ℕ} → b ≤ a → below a b ≡ false
unfolding below
le_below {a} {b} h = le-ltb a b h

-- one number more
pub below_next : (a v : ℕ) → (a ≡ v → ⊥) → below a v ≡ below a (v + 1)
below_next a v d =
    iff _ _ (λ t. let l = below-lt _ _ t in lt-below (omega arith)) (λ t. let l = below-lt _ _ t in lt-below (omega arith))
