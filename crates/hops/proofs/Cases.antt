-- What the hop call answers, case by case.
use mathlib.Core.Path.{◌≡◌, refl, sym, ◌∙◌, ap}
use mathlib.Core.Bool.{true, false}
use mathlib.Core.List.{List, [], ◌∷◌}
use Prim.Native.Nat.{ℕ, zero, suc, ◌*◌, ◌≤◌, ◌<◌, min}
use native.Mathlib.Omega.{arith}
use Rattle.std.specs.Prelude.{Err}
use lib.ListN.{length, get_or, take}
use Rattle.finite.specs.Truth.{◌or◌, same, below}
use Rattle.finite.proofs.Truth.{no_tf, bcase, refute, both, and_l, and_r, or_l, or_r, or_false, same-eq, eq-same, ne_same, same_refl, below-lt, lt-below, le_below}
use Rattle.lawful.specs.Turn.{label_in}
use Rattle.lawful.specs.Entry.{none}
use Rattle.nodes.specs.Limits.{max_nodes}
use Rattle.refusal.specs.declared.Refusal.TheVariants.{Unknown}
use Rattle.hops.specs.Row.{row_known, row_in}
use Rattle.hops.specs.Hop.{HopAnswer, Next, NoWay, stored_in, class_after, onward_of, hop_known, hop_in, hop_within, has_next, walk_by}
use Rattle.hops.proofs.Lookup.{row-refused, row-length}

-- ---- the class after it

module _ (labels : List ℕ) (node class destination next : ℕ) where
  pub class-here : node ≡ destination → class_after labels node class destination next ≡ class
  unfolding class_after
  class-here e = rw (eq-same e, class_after)

  module _ (away : node ≡ destination → ⊥) where
    class_1 : same class 1 or below (label_in labels next) (label_in labels node) ≡ true → class_after labels node class destination next ≡ 1
    unfolding class_after
    class_1 h = rw (ne_same away, class_after, h)

    pub class-falling : class ≡ 1 → class_after labels node class destination next ≡ 1
    class-falling e = class_1 (or_l _ (eq-same e))

    pub class-fall : label_in labels next < label_in labels node → class_after labels node class destination next ≡ 1
    class-fall l = class_1 (or_r _ (lt-below l))

    pub class-free : (class ≡ 1 → ⊥) → label_in labels node ≤ label_in labels next → class_after labels node class destination next ≡ 0
    unfolding class_after
    class-free d l = rw (ne_same away, class_after, ne_same d, or_false, le_below l)

-- ---- the byte that is stored

module _ (labels : List ℕ) (n node class destination next : ℕ) where
  pub onward-none : next ≡ none → onward_of labels n node class destination next ≡ NoWay
  unfolding onward_of
  onward-none e = rw (eq-same e, onward_of)

  module _ (some : next ≡ none → ⊥) where
    pub onward_past : n ≤ next → onward_of labels n node class destination next ≡ Err (Unknown 0)
    unfolding onward_of
    onward_past l = rw (ne_same some, onward_of, le_below l)

    pub onward-next : {then : ℕ} → next < n → then ≡ class_after labels node class destination next → onward_of labels n node class destination next ≡ Next next then
    unfolding onward_of
    onward-next l e = rw (ne_same some, onward_of, lt-below l, e)

-- ---- what is lent

-- a row that has a byte is not refused
pub part-known : (free falling : List ℕ) (n node class : ℕ) {part : List ℕ} → part ≡ row_in free falling n node class → 0 < length part → row_known free falling n node class ≡ true
part-known free falling n node class e l =
    bcase (row_known free falling n node class) (λ t. t) (λ f. let z = ap length (e ∙ row-refused free falling n node class f) in absurd (omega arith))

-- nothing of it has a fault
pub record Lent (labels free falling : List ℕ) (n node class destination : ℕ) : Type 0 where
  pub row : row_known free falling n node class ≡ true
  pub there : destination < n
  pub labelled : length labels ≡ n

module _ (labels free falling : List ℕ) (n node class destination : ℕ) where
  pub known-lent : hop_known labels free falling n node class destination ≡ true → Lent labels free falling n node class destination
  unfolding hop_known
  known-lent t = let u = and_r _ _ t in record { row = and_l _ _ t; there = below-lt _ _ (and_l _ _ u); labelled = same-eq _ _ (and_r _ _ u) }

  pub lent-known : Lent labels free falling n node class destination → hop_known labels free falling n node class destination ≡ true
  unfolding hop_known
  lent-known k = both k.row (both (lt-below k.there) (eq-same k.labelled))

  pub hop-known : Lent labels free falling n node class destination
      → hop_in labels free falling n node class destination ≡ onward_of labels n node class destination (stored_in free falling n node class destination)
  unfolding hop_in
  hop-known k = rw (lent-known k, hop_in)

  pub hop-unknown : (Lent labels free falling n node class destination → ⊥) → hop_in labels free falling n node class destination ≡ Err (Unknown 0)
  unfolding hop_in
  hop-unknown fault = rw (refute (hop_known labels free falling n node class destination) (λ t. fault (known-lent t)), hop_in)

  -- it has no fault, or it has one
  pub lent_or_not {ℓ} : {A : Type ℓ} → (Lent labels free falling n node class destination → A) → ((Lent labels free falling n node class destination → ⊥) → A) → A
  lent_or_not f g = bcase (hop_known labels free falling n node class destination) (λ t. f (known-lent t)) (λ t. g (λ k. no_tf (lent-known k) t))

  module _ {part : List ℕ} (e : part ≡ row_in free falling n node class) where
    -- past the row's end: the row is refused, or the destination is no node
    pub part_past : length part ≤ destination → hop_in labels free falling n node class destination ≡ Err (Unknown 0)
    part_past l = hop-unknown (λ k. let size = ap length e ∙ row-length free falling n node class k.row in let b = k.there in omega arith)

    pub part-onward : destination < length part → length labels ≡ n
        → hop_in labels free falling n node class destination ≡ onward_of labels n node class destination (get_or part destination 0)
    part-onward l size =
        let k = part-known free falling n node class e (omega arith) in
        let long = ap length e ∙ row-length free falling n node class k in
        hop-known (record { row = k; there = omega arith; labelled = size }) ∙ ap (λ (x : List ℕ). onward_of labels n node class destination (get_or x destination 0)) (sym e)

-- ---- over arrays

-- hop over the fronts of the arrays is what is asked of the arrays
pub fronts_within : (labels free falling : List ℕ) (n node class destination : ℕ) {k : ℕ} {labels-front free-front falling-front : List ℕ} {answer : HopAnswer} → k ≡ min n max_nodes
    → labels-front ≡ take k labels → free-front ≡ take (k * k) free → falling-front ≡ take (k * k) falling
    → answer ≡ hop_in labels-front free-front falling-front n node class destination
    → answer ≡ hop_within labels free falling n node class destination
unfolding hop_within
fronts_within labels free falling n node class destination e p q r h = rw (← e) (rw (← p, ← q, ← r) h)

-- ---- a walk by its answers

module _ (ask : ℕ → ℕ → HopAnswer) (t : ℕ) where
  pub walk_here : (k class : ℕ) → walk_by ask t k class t ≡ []
  unfolding walk_by
  walk_here zero class = refl
  walk_here (suc k) class = rw (same_refl t, walk_by)

  module _ (k class v : ℕ) (away : v ≡ t → ⊥) where
    pub walk_stuck : has_next (ask v class) ≡ false → walk_by ask t (suc k) class v ≡ []
    unfolding walk_by
    walk_stuck h = rw (ne_same away, walk_by, h)

    pub walk-there : {u c : ℕ} → ask v class ≡ Next u c → walk_by ask t (suc k) class v ≡ u ∷ walk_by ask t k c u
    unfolding walk_by
    walk-there h = rw (ne_same away, walk_by, h, h)
