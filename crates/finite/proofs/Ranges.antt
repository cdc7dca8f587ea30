-- The library's test of every number of a range, 0 to n - 1, is `all`.
use mathlib.Core.Path.{◌≡◌, refl, sym, ◌∙◌, ap}
use mathlib.Core.Bool.{Bool, true, false}
use Prim.Native.Nat.{ℕ, zero, suc, ◌+◌, ◌<◌}
use native.Mathlib.Omega.{arith}
use Rattle.std.specs.List.{list_all, range_with_len}
use Rattle.finite.specs.Search.{all}
use Rattle.finite.proofs.Truth.{no_tf, bcase, refute}
use Rattle.finite.proofs.Search.{every_all, all_every}

module _ (p : ℕ → Bool) where
  passes : {u v : ℕ} → u ≡ v → p u ≡ true → p v ≡ true
  passes e h = sym (ap p e) ∙ h

  each-listed : (a n : ℕ) → ((v : ℕ) → v < n → p (a + v) ≡ true) → list_all p (range_with_len a n) ≡ true
  each-listed a zero h = refl
  each-listed a (suc n) h =
      let x : p a ≡ true = passes (omega arith) (h 0 (omega arith)) in
      rw x (each-listed (a + 1) n (λ v l. passes (omega arith) (h (suc v) (omega arith))))

  first-listed : (a n : ℕ) → list_all p (range_with_len a (suc n)) ≡ true → (p a ≡ true) × (list_all p (range_with_len (a + 1) n) ≡ true)
  first-listed a n h =
      bcase (p a) (λ t. let k : list_all p (range_with_len (a + 1) n) ≡ true = rw t at h in (t, k)) (λ f. let k : false ≡ true = rw f at h in no_tf k refl)

  listed-each : (a n : ℕ) → list_all p (range_with_len a n) ≡ true → (v : ℕ) → v < n → p (a + v) ≡ true
  listed-each a zero h v l = absurd (omega arith)
  listed-each a (suc n) h zero l = passes (omega arith) (first-listed a n h).0
  listed-each a (suc n) h (suc v) l = passes (omega arith) (listed-each (a + 1) n (first-listed a n h).1 v (omega arith))

  pub all-range : (n : ℕ) → list_all p (range_with_len 0 n) ≡ all n p
  all-range n =
      bcase (all n p) (λ t. each-listed 0 n (λ v l. passes (omega arith) (all_every n p t v l)) ∙ sym t)
      (λ f. refute _ (λ t. no_tf (every_all n p (λ v l. passes (omega arith) (listed-each 0 n t v l))) f) ∙ sym f)
