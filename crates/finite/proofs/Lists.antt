-- Laws of lists: tabulated ones by length, elements, agreement and extensionality; lists of zeros, and zeros behind a list; defaults; one list stored over another.
use mathlib.Core.Path.{◌≡◌, refl, sym, ◌∙◌, ap, ap₂, subst}
use mathlib.Core.Bool.{true, false}
use mathlib.Core.List.{List, [], ◌∷◌, ◌++◌}
use Prim.Native.Nat.{ℕ, zero, suc, ◌+◌, ◌-◌, ◌≤◌, ◌<◌}
use native.Mathlib.Nat.{not-suc-le-zero, le_of_suc-le-suc, add-zero, zero-add, add-suc, suc-add}
use native.Mathlib.Numerals.{add-one}
use native.Mathlib.Omega.{arith}
use lib.ListN.{length, get_or, set, take, drop, replicate, length-append, length-replicate, get_or-eq_default}
use lib.Seq.{ext_get_or, sets, sets-eq, take-suc, take_at, length-take-le}
use borrow.Author.Tests.{eq-eqb, eqb-true}
use Rattle.finite.specs.Lists.{up_from, tabulate, padded, alike}
use Rattle.finite.proofs.Truth.{no_tf, refute, both, and_l, and_r}

-- a list of zeros reads 0 everywhere
pub get_or-zeros : (n i : ℕ) → ◌≡◌ {A = ℕ} (get_or (replicate n 0) i 0) 0
get_or-zeros zero i = refl
get_or-zeros (suc n) zero = refl
get_or-zeros (suc n) (suc i) = get_or-zeros n i

-- before the end of a list its default does not matter
pub get_or-inside : (l : List ℕ) (i c d : ℕ) → i < length l → get_or l i c ≡ get_or l i d
get_or-inside [] i c d b = absurd (not-suc-le-zero b)
get_or-inside (x ∷ l) zero c d b = refl
get_or-inside (x ∷ l) (suc i) c d b = get_or-inside l i c d (le_of_suc-le-suc b)

up_from-length : (k n : ℕ) (f : ℕ → ℕ) → length (up_from k n f) ≡ n
unfolding up_from
up_from-length k zero f = refl
up_from-length k (suc n) f = ap suc (up_from-length (suc k) n f)

up_from-at : (k n : ℕ) (f : ℕ → ℕ) (i d : ℕ) → i < n → get_or (up_from k n f) i d ≡ f (k + i)
unfolding up_from
up_from-at k zero f i d l = absurd (not-suc-le-zero l)
up_from-at k (suc n) f zero d l = ap f (sym (add-zero k))
up_from-at k (suc n) f (suc i) d l = up_from-at (suc k) n f i d (le_of_suc-le-suc l) ∙ ap f (suc-add k i ∙ sym (add-suc k i))

pub tabulate-length : (n : ℕ) (f : ℕ → ℕ) → length (tabulate n f) ≡ n
unfolding tabulate
tabulate-length n f = up_from-length 0 n f

pub tabulate-at : (n : ℕ) (f : ℕ → ℕ) (i d : ℕ) → i < n → get_or (tabulate n f) i d ≡ f i
unfolding tabulate
tabulate-at n f i d l = up_from-at 0 n f i d l ∙ ap f (zero-add i)

pub tabulate_out : (n : ℕ) (f : ℕ → ℕ) (i d : ℕ) → n ≤ i → get_or (tabulate n f) i d ≡ d
tabulate_out n f i d l = get_or-eq_default (tabulate n f) d (let e = tabulate-length n f in omega arith)

-- a list of length n whose elements are those of f is the list of f
pub tabulate_ext : (n : ℕ) (f : ℕ → ℕ) (d : ℕ) (l : List ℕ) → length l ≡ n → ((i : ℕ) → i < n → get_or l i d ≡ f i) → l ≡ tabulate n f
tabulate_ext n f d l e h =
    ext_get_or d l (tabulate n f) (e ∙ sym (tabulate-length n f)) (λ i k.
    let b : i < n = omega arith in h i b ∙ sym (tabulate-at n f i d b))

pub tabulate_cong : (n : ℕ) (f g : ℕ → ℕ) → ((i : ℕ) → i < n → f i ≡ g i) → tabulate n f ≡ tabulate n g
tabulate_cong n f g h = tabulate_ext n g 0 (tabulate n f) (tabulate-length n f) (λ i l. tabulate-at n f i 0 l ∙ h i l)

-- ---- zeros behind a list

zeros-behind : (l : List ℕ) (k i : ℕ) → get_or (l ++ replicate k 0) i 0 ≡ get_or l i 0
zeros-behind [] k i = get_or-zeros k i
zeros-behind (x ∷ l) k zero = refl
zeros-behind (x ∷ l) k (suc i) = zeros-behind l k i

pub padded-at : (k : ℕ) (l : List ℕ) (i : ℕ) → get_or (padded k l) i 0 ≡ get_or l i 0
unfolding padded
padded-at k l i = zeros-behind l (k - length l) i

pub padded-length : (k : ℕ) (l : List ℕ) → length l ≤ k → length (padded k l) ≡ k
unfolding padded
padded-length k l h = simp (length-append, length-replicate) (omega arith)

-- the list is the front of what is padded
pub padded-front : (k : ℕ) {n : ℕ} (l : List ℕ) → length l ≡ n → take n (padded k l) ≡ l
unfolding padded
padded-front k {n} l e = take_at l (replicate (k - length l) 0) n e

-- what is as long and reads the same is what is padded
pub padded_ext : (k : ℕ) (l m : List ℕ) → length l ≤ k → length m ≡ k → ((i : ℕ) → i < k → get_or m i 0 ≡ get_or l i 0) → m ≡ padded k l
padded_ext k l m h e same =
    ext_get_or 0 m (padded k l) (e ∙ sym (padded-length k l h)) (λ i b. same i (omega arith) ∙ sym (padded-at k l i))

-- ---- a list stored over another, element by element

-- one more byte stored is one more byte behind
sets_snoc : (l : List ℕ) (k : ℕ) (xs : List ℕ) (x : ℕ) → sets l k (xs ++ (x ∷ [])) ≡ set (sets l k xs) (k + length xs) x
sets_snoc l k [] x = ap (λ (i : ℕ). set l i x) (sym (add-zero k))
sets_snoc l k (y ∷ ys) x =
    sets_snoc (set l k y) (suc k) ys x ∙ ap (λ (i : ℕ). set (sets (set l k y) (suc k) ys) i x) (suc-add k (length ys) ∙ sym (add-suc k (length ys)))

pub sets_more : (l : List ℕ) (k : ℕ) (s : List ℕ) (i : ℕ) → i < length s → set (sets l k (take i s)) (k + i) (get_or s i 0) ≡ sets l k (take (i + 1) s)
sets_more l k s i h =
    sym (ap (sets l k) (ap (λ (j : ℕ). take j s) (add-one i) ∙ take-suc s i 0 h) ∙ sets_snoc l k (take i s) (get_or s i 0)
    ∙ ap (λ (j : ℕ). set (sets l k (take i s)) (k + j) (get_or s i 0)) (length-take-le i s (omega arith)))

-- two lists stored one behind the other are stored as one
pub sets_append : (b : List ℕ) (k : ℕ) (xs ys : List ℕ) → sets (sets b k xs) (k + length xs) ys ≡ sets b k (xs ++ ys)
sets_append b k [] ys = ap (λ (i : ℕ). sets b i ys) (add-zero k)
sets_append b k (x ∷ xs) ys =
    ap (λ (i : ℕ). sets (sets (set b k x) (suc k) xs) i ys) (add-suc k (length xs) ∙ sym (suc-add k (length xs))) ∙ sets_append (set b k x) (suc k) xs ys

-- stored from the front, it stands before what is left
pub sets_front : (l s : List ℕ) → length s ≤ length l → sets l 0 s ≡ s ++ drop (length s) l
sets_front l s h =
    let e = zero-add (length s) in
    sets-eq s l 0 (omega arith) ∙ ap (λ (n : ℕ). s ++ drop n l) e

-- ---- the test of sameness means equality

pub alike-eq : (xs ys : List ℕ) → alike xs ys ≡ true → xs ≡ ys
unfolding alike
alike-eq [] [] h = refl
alike-eq [] (y ∷ ys) h = no_tf h refl
alike-eq (x ∷ xs) [] h = no_tf h refl
alike-eq (x ∷ xs) (y ∷ ys) h = ap₂ ◌∷◌ (eqb-true x y (and_l _ _ h)) (alike-eq xs ys (and_r _ _ h))

alike_refl : (xs : List ℕ) → alike xs xs ≡ true
unfolding alike
alike_refl [] = refl
alike_refl (x ∷ xs) = both (eq-eqb x x refl) (alike_refl xs)

pub eq-alike : {xs ys : List ℕ} → xs ≡ ys → alike xs ys ≡ true
eq-alike {xs} e = subst (λ (l : List ℕ). alike xs l ≡ true) e (alike_refl xs)

pub ne-alike : (xs ys : List ℕ) → (xs ≡ ys → ⊥) → alike xs ys ≡ false
ne-alike xs ys h = refute _ (λ t. h (alike-eq xs ys t))
