-- The verdict on lines, line by line: all are as they must be, or the first that is not is told.
use Rattle.std.specs.Prelude.{Err, Ok}
use Rattle.refusal.specs.Verdicts.{Verdict}
use mathlib.Core.Path.{◌≡◌, refl}
use mathlib.Core.Bool.{true, false}
use mathlib.Core.List.{List, [], ◌∷◌}
use Prim.Native.Nat.{ℕ, zero, suc, ◌+◌, ◌<◌, zero-le, suc-le-suc}
use native.Mathlib.Nat.{le_of_suc-le-suc}
use native.Mathlib.Omega.{arith}
use lib.ListN.{length, get_or}
use Rattle.finite.proofs.Truth.{bcase, no_tf}
use Rattle.refusal.specs.declared.Refusal.TheVariants.{Line}
use Rattle.read_lines.specs.Numbers.{is_line, IsLine}
use Rattle.read_lines.proofs.Numbers.{is-line-iff}
use Rattle.sheets.specs.Faults.{link_lines_fault, lines_fault}
use Rattle.sheets.specs.Verdicts.{LineOn}

-- ---- a line in front of others

module _ (i : ℕ) (l : List ℕ) (ls : List (List ℕ)) where
  pub link-fine : is_line 2 l ≡ true → link_lines_fault i (l ∷ ls) ≡ link_lines_fault (suc i) ls
  unfolding link_lines_fault
  link-fine h = rw (h, link_lines_fault)

  pub link_bad : is_line 2 l ≡ false → link_lines_fault i (l ∷ ls) ≡ Err (Line i)
  unfolding link_lines_fault
  link_bad h = rw (h, link_lines_fault)

module _ (l : List ℕ) (ls : List (List ℕ)) where
  pub first_fine : is_line 1 l ≡ true → lines_fault (l ∷ ls) ≡ link_lines_fault 1 ls
  unfolding lines_fault
  first_fine h = rw (h, lines_fault)

  pub first_bad : is_line 1 l ≡ false → lines_fault (l ∷ ls) ≡ Err (Line 0)
  unfolding lines_fault
  first_bad h = rw (h, lines_fault)

pub lines-missing : lines_fault [] ≡ Err (Line 0)
unfolding lines_fault
lines-missing = refl

pub links-missing : (i : ℕ) → link_lines_fault i [] ≡ Ok tt
unfolding link_lines_fault
links-missing i = refl

-- ---- all of them

-- of lines numbered from i on, the j-th of which must be `On j`: the verdict, and why
pub data Judged (On : ℕ → List ℕ → Type 0) (ls : List (List ℕ)) (i : ℕ) : Verdict → Type 0 where
  judged_fine : ((j : ℕ) → j < length ls → On j (get_or ls j [])) → Judged On ls i (Ok tt)
  judged_bad : (j : ℕ) {k : ℕ} → k ≡ i + j → j < length ls → ((h : ℕ) → h < j → On h (get_or ls h [])) → (On j (get_or ls j []) → ⊥) → Judged On ls i (Err (Line k))

-- a fine line in front
module _ (On : ℕ → List ℕ → Type 0) {l : List ℕ} (ls : List (List ℕ)) (f : On 0 l) where
  in_front : {n : ℕ} → ((j : ℕ) → j < n → On (suc j) (get_or ls j [])) → (j : ℕ) → j < suc n → On j (get_or (l ∷ ls) j [])
  in_front g zero h = f
  in_front g (suc j) h = g j (le_of_suc-le-suc h)

  judged_front : {i : ℕ} {v : Verdict} → Judged (λ j. On (suc j)) ls (suc i) v → Judged On (l ∷ ls) i v
  judged_front (judged_fine g) = judged_fine (in_front g)
  judged_front (judged_bad j {k} e h g n) = judged_bad (suc j) {k = k} (omega arith) (suc-le-suc h) (in_front g) n

-- a bad one
judged_first : (On : ℕ → List ℕ → Type 0) {l : List ℕ} (ls : List (List ℕ)) (i : ℕ) → (On 0 l → ⊥) → Judged On (l ∷ ls) i (Err (Line i))
judged_first On ls i n = judged_bad 0 {k = i} (omega arith) (suc-le-suc (zero-le {n = length ls})) (λ j k. absurd (omega arith)) n

not_line : (k : ℕ) (l : List ℕ) → is_line k l ≡ false → IsLine k l → ⊥
not_line k l h f = no_tf ((is-line-iff k l).1 f) h

links_judged : (i : ℕ) (ls : List (List ℕ)) → Judged (λ j l. IsLine 2 l) ls i (link_lines_fault i ls)
links_judged i [] = rw (links-missing i) (judged_fine (λ j h. absurd (omega arith)))
links_judged i (l ∷ ls) =
    bcase (is_line 2 l) (λ t. rw (link-fine i l ls t) (judged_front (λ j l. IsLine 2 l) ls ((is-line-iff 2 l).0 t) (links_judged (suc i) ls)))
    (λ t. rw (link_bad i l ls t) (judged_first (λ j l. IsLine 2 l) ls i (not_line 2 l t)))

pub lines_judged : (l : List ℕ) (ls : List (List ℕ)) → Judged LineOn (l ∷ ls) 0 (lines_fault (l ∷ ls))
lines_judged l ls =
    bcase (is_line 1 l) (λ t. rw (first_fine l ls t) (judged_front LineOn ls ((is-line-iff 1 l).0 t) (links_judged 1 ls)))
    (λ t. rw (first_bad l ls t) (judged_first LineOn ls 0 (not_line 1 l t)))
