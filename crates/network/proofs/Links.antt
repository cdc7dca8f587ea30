-- Tables made link by link: what one pair adds, and that all pairs together make the table of a list of pairs.
use mathlib.Core.Path.{◌≡◌, refl, sym, ◌∙◌, ap, ap₂}
use mathlib.Core.Bool.{Bool, true, false}
use mathlib.Core.List.{List, ◌++◌}
use Prim.Native.Nat.{ℕ, ◌+◌, ◌*◌, ◌/◌, ◌≤◌, ◌<◌}
use native.Mathlib.Nat.{add-zero}
use native.Mathlib.Numerals.{add-one}
use native.Mathlib.Omega.{arith}
use lib.Dec.{lit<}
use lib.ListN.{length, get_or, set, drop, replicate, length-set, length-append, length-drop, length-replicate, get_or-append}
use lib.Seq.{get_or-set_same, get_or-set_other, get_or-drop, drop-drop, drop-append_seam}
use Rattle.finite.specs.Truth.{◌or◌, same}
use Rattle.finite.specs.Search.{any}
use Rattle.finite.specs.Sets.{has, set_of}
use Rattle.finite.proofs.Truth.{bcase, iff, refute, both, and_l, and_r, or_l, or_r, or_case, or_false, non-true, true-non, same_refl, same-eq, same-ne, eq-same, ne_same}
use Rattle.finite.proofs.Search.{any-more}
use Rattle.finite.proofs.Lists.{get_or-zeros}
use Rattle.finite.proofs.Sets.{has_0, has-set_of}
use Rattle.nodes.specs.Limits.{max_nodes}
use Rattle.network.specs.Table.{joins, linked_by, linked, neighbours_of, edge_of, table_from}
use Rattle.network.proofs.Table.{Words, table_ext}

-- what `joins` says, and how it is made
pub joins-ends {ℓ} : {A : Type ℓ} (x y a b : ℕ) → joins x y a b ≡ true → (x ≡ a → y ≡ b → A) → (x ≡ b → y ≡ a → A) → A
unfolding joins
joins-ends x y a b h f g =
    or_case _ _ (and_r _ _ h) (λ t. f (same-eq x a (and_l _ _ t)) (same-eq y b (and_r _ _ t)))
    (λ t. g (same-eq x b (and_l _ _ t)) (same-eq y a (and_r _ _ t)))

pub joins-ne : (x y a b : ℕ) → joins x y a b ≡ true → x ≡ y → ⊥
unfolding joins
joins-ne x y a b h = same-ne x y (non-true _ (and_l _ _ h))

pub joins_this : (x y : ℕ) → (x ≡ y → ⊥) → joins x y x y ≡ true
unfolding joins
joins_this x y d = both (true-non (ne_same d)) (or_l _ (both (same_refl x) (same_refl y)))

pub joins_swap : (x y a b : ℕ) → joins x y a b ≡ true → joins x y b a ≡ true
unfolding joins
joins_swap x y a b h = both (and_l _ _ h) (or_case _ _ (and_r _ _ h) (λ t. or_r _ t) (λ t. or_l _ t))

-- a pair has one other end
pub other-end : (x y a b c : ℕ) → joins x y a b ≡ true → joins x y a c ≡ true → b ≡ c
other-end x y a b c h k =
    joins-ends x y a b h (λ p q. joins-ends x y a c k (λ r s. sym q ∙ s) (λ r s. absurd (joins-ne x y a b h (p ∙ sym s))))
    (λ p q. joins-ends x y a c k (λ r s. absurd (joins-ne x y a b h (r ∙ sym q))) (λ r s. sym p ∙ r))

-- a pair that joins no two of the first 64 numbers adds nothing
pub link-none : (t : List ℕ) (a b : ℕ) → ((x y : ℕ) → x < max_nodes → y < max_nodes → joins a b x y ≡ true → ⊥)
    → (x y : ℕ) → x < max_nodes → y < max_nodes → edge_of t x y ≡ joins a b x y or edge_of t x y
link-none t a b h x y k l = sym (ap (λ (j : Bool). j or edge_of t x y) (refute _ (h x y k l)) ∙ or_false _)

-- one pair more
module _ (t : List ℕ) (a b : ℕ) {v w : ℕ} (size : length t ≡ max_nodes) (d : a ≡ b → ⊥) (la : a < max_nodes) (lb : b < max_nodes)
    (ev : v ≡ set_of max_nodes (λ u. has (neighbours_of t a) u or same b u)) (ew : w ≡ set_of max_nodes (λ u. has (neighbours_of (set t a v) b) u or same a u)) where
  at_a : get_or (set (set t a v) b w) a 0 ≡ v
  at_a = get_or-set_other (set t a v) b a w 0 d ∙ get_or-set_same t a v 0 (rw size la)

  at_b : get_or (set (set t a v) b w) b 0 ≡ w
  at_b = get_or-set_same (set t a v) b w 0 (rw (length-set t a v ∙ size) lb)

  row_a : (y : ℕ) → y < max_nodes → has (get_or (set (set t a v) b w) a 0) y ≡ has (get_or t a 0) y or same b y
  row_a y l = ap (λ (r : ℕ). has r y) (at_a ∙ ev) ∙ has-set_of max_nodes _ y l

  row_b : (y : ℕ) → y < max_nodes → has (get_or (set (set t a v) b w) b 0) y ≡ has (get_or t b 0) y or same a y
  row_b y l =
      ap (λ (r : ℕ). has r y) (at_b ∙ ew) ∙ has-set_of max_nodes _ y l
      ∙ ap (λ (r : ℕ). has r y or same a y) (get_or-set_other t a b v 0 (λ e. d (sym e)))

  -- the row of one end gains the other end and nothing else
  end : (x z y : ℕ) → joins a b x z ≡ true → has (get_or (set (set t a v) b w) x 0) y ≡ has (get_or t x 0) y or same z y
      → has (get_or (set (set t a v) b w) x 0) y ≡ joins a b x y or has (get_or t x 0) y
  end x z y j e =
      e
      ∙ iff _ _ (λ h. or_case _ _ h (λ s. or_r _ s) (λ s. or_l _ (ap (joins a b x) (sym (same-eq z y s)) ∙ j)))
      (λ h. or_case _ _ h (λ s. or_r _ (eq-same (other-end a b x z y j s))) (λ s. or_l _ s))

  pub link-one : (x y : ℕ) → x < max_nodes → y < max_nodes → edge_of (set (set t a v) b w) x y ≡ joins a b x y or edge_of t x y
  unfolding edge_of
  link-one x y k l =
      bcase (same x a) (λ q. rw (same-eq x a q) (end a b y (joins_this a b d) (row_a y l)))
      (λ q.
      let na = same-ne x a q in
      bcase (same x b) (λ p. rw (same-eq x b p) (end b a y (joins_swap a b a b (joins_this a b d)) (row_b y l)))
      (λ p.
      let nb = same-ne x b p in
      ap (λ (r : ℕ). has r y) (get_or-set_other (set t a v) b x w 0 nb ∙ get_or-set_other t a x v 0 na)
      ∙ sym (ap (λ (j : Bool). j or has (get_or t x 0) y) (refute _ (λ j. joins-ends a b x y j (λ e f. na (sym e)) (λ e f. nb (sym f)))) ∙ or_false _)))

-- ---- pair by pair

pub linked_by-none : (pairs : List ℕ) (x y : ℕ) → linked_by 0 pairs x y ≡ false
unfolding linked_by any
linked_by-none pairs x y = refl

pub linked_by-more : (i : ℕ) (pairs : List ℕ) (x y : ℕ)
    → linked_by (i + 1) pairs x y ≡ joins (get_or pairs (2 * i) 0) (get_or pairs (2 * i + 1) 0) x y or linked_by i pairs x y
unfolding linked_by
linked_by-more i pairs x y = ap (λ (k : ℕ). any k (λ j. joins (get_or pairs (2 * j) 0) (get_or pairs (2 * j + 1) 0) x y)) (add-one i) ∙ any-more i _

-- the pairs behind the first i, as the loop over pairs has them left
pub record Pairs (pairs : List ℕ) (i : ℕ) (behind : List ℕ) (size : ℕ) : Type 0 where
  pub two : size ≡ 2
  pub left : behind ≡ drop (2 * i) pairs
  pub room : 2 * i ≤ length pairs

pub pairs_none : {pairs behind : List ℕ} {size : ℕ} → behind ≡ pairs → size ≡ 2 → Pairs pairs 0 behind size
pairs_none e two = record { two = two; left = e; room = omega arith }

-- the next pair
module _ (pair next : List ℕ) {pairs left : List ℕ} {i size : ℕ} (p : Pairs pairs i left size) (e : left ≡ pair ++ next) (l : length pair ≡ size) where
  at : (k : ℕ) → k < 2 → get_or pair k 0 ≡ get_or pairs (2 * i + k) 0
  at k h =
      sym (get_or-append pair next 0 k (let t = p.two in omega arith)) ∙ ap (λ (x : List ℕ). get_or x k 0) (sym e ∙ p.left)
      ∙ get_or-drop (2 * i) pairs k 0

  pub first : get_or pair 0 0 ≡ get_or pairs (2 * i) 0
  first = at 0 (omega arith) ∙ ap (λ (k : ℕ). get_or pairs k 0) (add-zero (2 * i))

  pub second : get_or pair 1 0 ≡ get_or pairs (2 * i + 1) 0
  second = at 1 (omega arith)

  pub pairs_more : Pairs pairs (i + 1) next size
  pairs_more = record {
    two = p.two;
    left = sym (drop-append_seam pair next) ∙ ap₂ (λ (n : ℕ) (x : List ℕ). drop n x) (l ∙ p.two) (sym e ∙ p.left) ∙ drop-drop 2 (2 * i) pairs
        ∙ ap (λ (n : ℕ). drop n pairs) (omega arith);
    room = let a = length-append pair next in let b = ap length (sym e ∙ p.left) in let d = length-drop (2 * i) pairs in let t = p.two in omega arith;
  }

pub pairs_all : {pairs left : List ℕ} {i size : ℕ} → Pairs pairs i left size → length left < size → i ≡ length pairs / 2
pairs_all {pairs} {i = i} p h =
    let d = length-drop (2 * i) pairs in
    let a = ap length p.left in
    let t = p.two in
    let r = p.room in
    omega arith

-- the table holds the links of the first i pairs
pub record Linking (pairs t : List ℕ) (i : ℕ) : Type 0 where
  pub size : length t ≡ max_nodes
  pub words : Words t
  pub links : (x y : ℕ) → x < max_nodes → y < max_nodes → edge_of t x y ≡ linked_by i pairs x y

pub linking_none : (pairs : List ℕ) → Linking pairs (replicate max_nodes 0) 0
unfolding edge_of
linking_none pairs = record {
  size = length-replicate {A = ℕ} max_nodes 0;
  words = λ a. rw (get_or-zeros max_nodes a) (lit< tt);
  links = λ x y k l. ap (λ (r : ℕ). has r y) (get_or-zeros max_nodes x) ∙ has_0 y ∙ sym (linked_by-none pairs x y);
}

pub linking_more : {pairs t s : List ℕ} {i a b : ℕ} → Linking pairs t i → a ≡ get_or pairs (2 * i) 0 → b ≡ get_or pairs (2 * i + 1) 0
    → length s ≡ max_nodes → Words s → ((x y : ℕ) → x < max_nodes → y < max_nodes → edge_of s x y ≡ joins a b x y or edge_of t x y)
    → Linking pairs s (i + 1)
linking_more {pairs} {i = i} {a = a} {b = b} q ea eb e w h = record {
  size = e;
  words = w;
  links = λ x y k l.
      h x y k l ∙ ap (λ (r : Bool). joins a b x y or r) (q.links x y k l)
      ∙ ap₂ (λ (c d : ℕ). joins c d x y or linked_by i pairs x y) ea eb ∙ sym (linked_by-more i pairs x y);
}

pub linking_all : {pairs t : List ℕ} {i : ℕ} → Linking pairs t i → i ≡ length pairs / 2 → t ≡ table_from (linked pairs)
unfolding linked
linking_all {pairs} q e = table_ext _ (linked_by (length pairs / 2) pairs) q.size q.words (λ x y k l. q.links x y k l ∙ ap (λ (n : ℕ). linked_by n pairs x y) e)
