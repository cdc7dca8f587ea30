-- A reader of contents that are in order finds their k entries one by one, of kinds 1, .., k, and then none.
use mathlib.Core.Path.{◌≡◌, sym, ◌∙◌, ap}
use mathlib.Core.Bool.{true}
use mathlib.Core.List.{List}
use Prim.Native.Nat.{ℕ, suc, ◌<◌}
use native.Mathlib.Omega.{arith}
use Rattle.std.proofs.Common.{Option, Some, None}
use Rattle.format.specs.declared.Entry.{Entry}
use Rattle.format.specs.Contents.{offset_at, length_at, in_order}
use Rattle.format.specs.Order.{InOrder}
use Rattle.format.proofs.Contents.{entry-there, entry-missing}
use Rattle.format.proofs.Order.{in_order_iff, in_order_size, in_order_kinds}
use Rattle.contents.specs.declared.Found.{Found}
use Rattle.contents.specs.Walking.{next_after, found_at}

-- what is found, and where the reader goes on
abbrev pub going : Option Entry → ℕ → Found
going e n = record { entry = e; next = n }

module _ (b : List ℕ) (k : ℕ) (h : in_order b k ≡ true) where
  pub finds_each : (i : ℕ) → i < k
      → found_at b i ≡ going (Some (record { kind = suc i; second = 0; offset = offset_at b i; length = length_at b i })) (suc i)
  finds_each i l =
      let words : InOrder b k = (in_order_iff b k).0 h in
      let room = in_order_size b k h in
      let number = in_order_kinds b k h in
      sym (ap (λ (e : Option Entry). going e (next_after e i)) (entry-there b i (omega arith) (omega arith) (omega arith)))
      ∙ (λ j. going (Some (record { kind = words.kinds i l j; second = words.zeros i l j; offset = offset_at b i; length = length_at b i })) (suc i))

  pub then-none : found_at b k ≡ going None k
  then-none =
      let number = in_order_kinds b k h in
      sym (ap (λ (e : Option Entry). going e (next_after e k)) (entry-missing b k (λ _ l _. omega arith)))
