-- Where a text begins with a line of bytes, and what is answered then.
use mathlib.Core.Path.{◌≡◌, refl}
use mathlib.Core.Bool.{Bool, true, false}
use mathlib.Core.List.{List, [], ◌∷◌}
use Prim.Native.Nat.{ℕ, ◌<◌}
use lib.ListN.{length, take}
use Rattle.std.proofs.Common.{Some, None}
use Rattle.finite.proofs.Truth.{both, refute, and_l, and_r}
use Rattle.finite.proofs.Lists.{alike-eq, eq-alike}
use Rattle.read_lines.specs.Numbers.{are_bytes, begins, found_of, found_where}
use Rattle.read_lines.specs.declared.FirstLine.{FirstLine}
use Rattle.read_lines.proofs.Numbers.{bytes-two-iff}

module _ (ns l s : List ℕ) where
  pub begins-where : are_bytes ns ≡ true → take (length l) s ≡ l → begins ns l s ≡ true
  unfolding begins
  begins-where b e = both b (eq-alike e)

  pub begins-not : (are_bytes ns ≡ true → take (length l) s ≡ l → ⊥) → begins ns l s ≡ false
  unfolding begins
  begins-not h = refute _ (λ t. h (and_l _ _ t) (alike-eq _ _ (and_r _ _ t)))

  pub begins-means : begins ns l s ≡ true → (are_bytes ns ≡ true) × (take (length l) s ≡ l)
  unfolding begins
  begins-means t = (and_l _ _ t, alike-eq _ _ (and_r _ _ t))

module _ (m n : ℕ) (l s : List ℕ) where
  pub found-some : m < 256 → n < 256 → take (length l) s ≡ l → Some (record { size = length l; first = m; second = n }) ≡ found_of m n l s
  unfolding found_of
  found-some p q e = rw (begins-where (m ∷ n ∷ []) l s ((bytes-two-iff m n).1 (p, q)) e)

  pub found-none : (m < 256 → n < 256 → take (length l) s ≡ l → ⊥) → None ≡ found_of m n l s
  unfolding found_of
  found-none h = rw (begins-not (m ∷ n ∷ []) l s (λ b. h ((bytes-two-iff m n).0 b).0 ((bytes-two-iff m n).0 b).1))

-- what is found is the line, and the text begins with it
pub found-line : (b : Bool) (l : List ℕ) (m n : ℕ) {f : FirstLine} → Some f ≡ found_where b l m n → (b ≡ true) × (f ≡ record { size = length l; first = m; second = n })
found-line true l m n e = (refl, cc)
found-line false l m n e = absurd cc

pub found-no_line : (b : Bool) (l : List ℕ) (m n : ℕ) → None ≡ found_where b l m n → b ≡ false
found-no_line true l m n e = absurd cc
found-no_line false l m n e = refl
