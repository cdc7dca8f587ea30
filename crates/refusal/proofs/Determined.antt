-- The promises of `number` and `place` determine their answers, and number and place tell the refusals apart.
use mathlib.Core.Path.{◌≡◌, refl, sym, ◌∙◌, ap₂}
use mathlib.Core.List.{[], ◌∷◌}
use Prim.Native.Nat.{ℕ}
use lib.ListN.{get_or}
use Rattle.refusal.specs.Number.{number_of, place_of}
use Rattle.refusal.specs.declared.Refusal.{Refusal}
use Rattle.refusal.specs.declared.Refusal.TheVariants.{Contents, Count, Shape, Ends, Order, Crowded, Apart, Differs, Short, Unknown, Messages, Line}

abbrev refusal_at : ℕ → ℕ → Refusal
refusal_at n p =
    get_or (Contents ∷ Contents ∷ Count ∷ Shape ∷ Ends p ∷ Order p ∷ Crowded p ∷ Apart p ∷ Differs ∷ Short ∷ Unknown p ∷ Messages ∷ Line p ∷ []) n Contents

back : (r : Refusal) → refusal_at (number_of r) (place_of r) ≡ r
back Contents = refl
back Count = refl
back Shape = refl
back (Ends p) = refl
back (Order p) = refl
back (Crowded v) = refl
back (Apart v) = refl
back Differs = refl
back Short = refl
back (Unknown p) = refl
back Messages = refl
back (Line i) = refl

pub number_determined : (r : Refusal) (m n : ℕ) → m ≡ number_of r → n ≡ number_of r → m ≡ n
number_determined r m n p q = p ∙ sym q

pub place_determined : (r : Refusal) (m n : ℕ) → m ≡ place_of r → n ≡ place_of r → m ≡ n
place_determined r m n p q = p ∙ sym q

-- no two refusals share both
pub refusal_unique : (r s : Refusal) → number_of r ≡ number_of s → place_of r ≡ place_of s → r ≡ s
refusal_unique r s n p = sym (back r) ∙ ap₂ refusal_at n p ∙ back s
