-- The promises of `put` and `byte`, and of every call that lays a piece, leave one outcome: any two that they allow are equal, buffer and place.
use mathlib.Core.Path.{◌≡◌, sym, ◌∙◌, ap}
use mathlib.Core.List.{List}
use Prim.Native.Nat.{ℕ}
use Rattle.laid.specs.Laid.{Page, page}

pub page_determined : {x : Page} {b c : List ℕ} {r s : ℕ} → page b r ≡ x → page c s ≡ x → (b ≡ c) × (r ≡ s)
page_determined p q = let e = p ∙ sym q in (ap (λ (y : Page). y.bytes) e, ap (λ (y : Page). y.at) e)
