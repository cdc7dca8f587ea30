-- What a set's members are: the set that its words make, below 2 ^ max_nodes, and what tells one set from another. What it is to have none.
use mathlib.Core.Path.{◌≡◌, refl, sym, ◌∙◌, ap}
use mathlib.Core.Bool.{Bool, true, false}
use mathlib.Core.List.{[], ◌∷◌}
use Prim.Native.Nat.{ℕ, ◌^◌, ◌<◌}
use native.Mathlib.Omega.{arith}
use lib.Dec.{eqb}
use borrow.Author.Tests.{eqb-true, eqb-false}
use Rattle.finite.specs.Words.{value}
use Rattle.finite.proofs.Truth.{no_tf}
use Rattle.finite.proofs.Words.{value-word}
use Rattle.nodes.specs.Limits.{max_nodes}
use Rattle.nodes.specs.Members.{members, set_with}

pub members-words : (w : ℕ) → w < 2 ^ max_nodes → members w ≡ value max_nodes 1 (w ∷ [])
members-words w l = sym (value-word max_nodes (omega arith) w l)

pub members-lt : (w : ℕ) → w < 2 ^ max_nodes → members w < 2 ^ max_nodes
members-lt w l = l

-- a set is known by its members, and there is one for any numbers below max_nodes
pub set-with : (w : ℕ) → set_with (members w) ≡ w
set-with w = refl

pub members-with : (s : ℕ) → s < 2 ^ max_nodes → members (set_with s) ≡ s
members-with s l = refl

pub members_determined : (r s : ℕ) → members r ≡ members s → r ≡ s
members_determined r s e = sym (set-with r) ∙ ap set_with e ∙ set-with s

-- what `is_empty` answers, and what a loop asks that goes on while a set is not empty
pub is-empty : {w : ℕ} {r : Bool} → r ≡ eqb (members w) 0 → r ≡ true → members w ≡ 0
is-empty e t = eqb-true _ _ (sym e ∙ t)

pub none_left : {w : ℕ} {r : Bool} → r ≡ eqb (members w) 0 → r ≡ true → members w ≡ 0
none_left {r = true} e f = is-empty e refl
none_left {r = false} e f = no_tf f refl

pub some_left : {w : ℕ} {r : Bool} → r ≡ eqb (members w) 0 → r ≡ false → members w ≡ 0 → ⊥
some_left {r = true} e t = no_tf refl t
some_left {r = false} e t = eqb-false _ _ (sym e)
