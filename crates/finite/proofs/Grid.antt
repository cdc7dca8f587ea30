-- Where a cell of a square table stands in a list that holds it row by row: cell v * m + t stands in row v and column t.
use mathlib.Core.Path.{◌≡◌, sym, ◌∙◌, ap, ap₂}
use Prim.Native.Nat.{ℕ, zero, suc, ◌+◌, ◌*◌, ◌/◌, ◌%◌, ◌≤◌, ◌<◌}
use native.Mathlib.Nat.{le_refl, not-suc-le-zero, mul-add-div_right, mul-add-mod_self_right, mod-eq_of_lt, mod-lt, div-eq_of_lt, div-add-mod', div-lt_iff_lt-mul, mul-le-mul, add-zero}
use native.Mathlib.Omega.{arith}
use Rattle.finite.specs.Truth.{◌&◌, below}
use Rattle.finite.proofs.Truth.{iff, both, and_l, and_r, below-lt, lt-below}

module _ (m d : ℕ) (low : d < m) where
  pub cell_row : (v : ℕ) → (v * m + d) / m ≡ v
  cell_row v = mul-add-div_right (omega arith) v d ∙ ap (λ (x : ℕ). v + x) (div-eq_of_lt low) ∙ add-zero v

  pub cell-column : (v : ℕ) → (v * m + d) % m ≡ d
  cell-column v = mul-add-mod_self_right v m d ∙ mod-eq_of_lt low

  -- a cell of the table is one of its m * m cells
  pub cell-lt : (v : ℕ) → v < m → v * m + d < m * m
  cell-lt v l = let b : suc v * m ≤ m * m = mul-le-mul l (le_refl m) in omega arith

-- a cell is given by its row and its column
pub cell-is : (m i v d : ℕ) → i / m ≡ v → i % m ≡ d → i ≡ v * m + d
cell-is m i v d p q = sym (div-add-mod' i m) ∙ ap₂ (λ (x y : ℕ). x * m + y) p q

-- a cell of n × n has one of the n rows and one of the n columns
pub cell-low : (n i : ℕ) → i < n * n → (i / n < n) × (i % n < n)
cell-low zero i l = absurd (not-suc-le-zero l)
cell-low (suc n) i l = ((div-lt_iff_lt-mul {k = suc n} {x = i} {y = suc n} (omega arith)).1 l, mod-lt i (omega arith))

-- and has them just where it is one of the n × n
pub cell-inside : (n i : ℕ) → below (i % n) n & below (i / n) n ≡ below i (n * n)
cell-inside n i =
    iff _ _
    (λ t.
    let a = below-lt _ _ (and_l _ _ t) in
    let b = below-lt _ _ (and_r _ _ t) in
    lt-below ((div-lt_iff_lt-mul {k = n} {x = i} {y = n} (omega arith)).0 b))
    (λ t. let (v, d) = cell-low n i (below-lt _ _ t) in both (lt-below d) (lt-below v))
