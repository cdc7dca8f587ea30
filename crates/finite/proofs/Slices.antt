-- Parts of a list: one that runs past the end, one element and what follows it, and none.
use mathlib.Core.Path.{◌≡◌, sym, ◌∙◌, ap}
use mathlib.Core.List.{List, [], ◌∷◌}
use Prim.Native.Nat.{ℕ, suc, ◌-◌, ◌≤◌, ◌<◌}
use native.Mathlib.Nat.{add-zero}
use native.Mathlib.Numerals.{add-one}
use native.Mathlib.Omega.{arith}
use lib.ListN.{length, get_or, take, drop, length-drop}
use lib.Seq.{get_or-drop, drop-drop, take_all, drop-cons}

pub part-rest : (l : List ℕ) (a n : ℕ) → length l - a ≤ n → take n (drop a l) ≡ drop a l
part-rest l a n h = take_all n (drop a l) (let e = length-drop a l in omega arith)

-- the element at n, and what follows it
pub drop-next : (l : List ℕ) (n m : ℕ) → n < length l → m ≡ suc n → drop n l ≡ get_or l n 0 ∷ drop m l
drop-next l n m h e = drop-cons l n 0 h ∙ ap (λ (x : ℕ). get_or l n 0 ∷ drop x l) (sym e)

-- what stands at and after place i of a list
pub record Split (l : List ℕ) (i x : ℕ) (rest : List ℕ) : Type 0 where
  pub low : i < length l
  pub here : get_or l i 0 ≡ x
  pub on : drop (suc i) l ≡ rest

pub drop_split : (l : List ℕ) (i x : ℕ) (rest : List ℕ) → drop i l ≡ x ∷ rest → Split l i x rest
drop_split l i x rest e = record {
  low = let a = length-drop i l in let b = ap length e in omega arith;
  here = ap (λ (j : ℕ). get_or l j 0) (sym (add-zero i)) ∙ sym (get_or-drop i l 0 0) ∙ ap (λ (k : List ℕ). get_or k 0 0) e;
  on = ap (λ (j : ℕ). drop j l) (sym (add-one i)) ∙ sym (drop-drop 1 i l) ∙ ap (drop 1) e;
}

pub drop-end : (l : List ℕ) (i : ℕ) → drop i l ≡ [] → length l ≤ i
drop-end l i e = let a = length-drop i l in let b = ap length e in omega arith
