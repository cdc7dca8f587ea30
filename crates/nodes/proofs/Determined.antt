-- The promises of functions that answer a set determine it, as they say what its members are: any two outcomes that one allows are equal.
use Rattle.std.specs.Prelude.{Option, Some, None}
use mathlib.Core.Path.{◌≡◌, refl, sym, ◌∙◌, ap}
use mathlib.Core.Bool.{Bool}
use Prim.Native.Nat.{ℕ}
use lib.Dec.{eqb}
use Rattle.finite.specs.Sets.{has, set_of, without}
use Rattle.nodes.specs.Limits.{max_nodes}
use Rattle.nodes.specs.Members.{members}
use Rattle.nodes.specs.InOrder.{PassesLowest}
use Rattle.nodes.proofs.Members.{members_determined}

pub set_determined : (x r s : ℕ) → members r ≡ x → members s ≡ x → r ≡ s
set_determined x r s p q = members_determined r s (p ∙ sym q)

pub none_determined : (r s : ℕ) → members r ≡ 0 → members s ≡ 0 → r ≡ s
none_determined = set_determined 0

pub is-empty_determined : (w : ℕ) (r s : Bool) → r ≡ eqb (members w) 0 → s ≡ eqb (members w) 0 → r ≡ s
is-empty_determined w r s p q = p ∙ sym q

-- the members of a set in turn
pub next_determined : (left : ℕ) (r s : Option ℕ) (t u : ℕ) → PassesLowest left r t → PassesLowest left s u → (r ≡ s) × (t ≡ u)
next_determined left None None t u p q = (refl, set_determined _ t u p.1 q.1)
next_determined left (Some v) (Some w) t u p q =
    let e : v ≡ w = p.1 ∙ sym q.1 in
    (ap Some e, set_determined _ t u p.2 (q.2 ∙ ap (λ (x : ℕ). set_of max_nodes (without (has (members left)) x)) (sym e)))
next_determined left None (Some w) t u p q = absurd (q.0 p.0)
next_determined left (Some v) None t u p q = absurd (p.0 q.0)
