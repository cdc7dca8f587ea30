-- The search for the choice, node by node: the best so far is the least of the candidates passed.
use mathlib.Core.Path.{◌≡◌, refl, sym, ◌∙◌, ap, subst, subst⁻¹}
use mathlib.Core.Bool.{Bool, true, false}
use mathlib.Core.Logic.{◌⊎◌, inl, inr, ⊎_elim}
use Prim.Native.Nat.{ℕ, ◌^◌, ◌≤◌, ◌<◌}
use native.Mathlib.Omega.{arith}
use lib.Dec.{leb}
use borrow.Author.Tests.{leb-true, leb-false}
use Rattle.finite.specs.Truth.{◌&◌, same, below}
use Rattle.finite.specs.Search.{least, least_by}
use Rattle.finite.specs.Sets.{has, set_of, without}
use Rattle.finite.proofs.Truth.{no_tf, bcase, refute, both, and_l, and_r, true-non, non-true, same-eq, same-ne, below-lt, below-le, lt-below, le_below}
use Rattle.finite.proofs.Search.{least-found, least_by-least, least_by-none, least-by_unique}
use Rattle.finite.proofs.Sets.{has_0, has-lt, has-set_of, without_in, without-ne, in_without, set_of_in}
use Rattle.nodes.proofs.Words.{lowest_in, word_lt}
use Rattle.std.specs.Prelude.{Option, Some, None, MatchOption, ⊤}
use Rattle.graph.specs.Reach.{splits}
use Rattle.labels.specs.declared.Best.{Best}
use Rattle.labels.specs.Links.{room_by, candidate_by}
use Rattle.labels.specs.Search.{better}

-- ---- one node

module _ (f : ℕ → ℕ) (p : ℕ → Bool) (v : ℕ) where
  -- no lower degree; no candidate
  not_lower : (best : Best) → best.degree ≤ f v → Some best ≡ better f p v (Some best)
  unfolding better
  not_lower best l = rw (refute (below (f v) best.degree & p v) (λ t. no_tf (and_l _ _ t) (le_below l)), better)

  taken : (best : Option Best) → MatchOption best ⊤ (λ b. f v < b.degree) → p v ≡ true → Some (record { degree = f v; node = v }) ≡ better f p v best
  unfolding better
  taken None l e = rw (e, better)
  taken (Some best) l e = rw (both (lt-below l) e, better)

  -- r is what the code asks of the best so far: is there one, and is its degree no higher?
  pub no_lower : (best : Option Best) {P : Best → Type 0} (d : ℕ) {r : Bool} → MatchOption best (r ≡ false) P → ((b : Best) → P b → r ≡ leb b.degree d)
      → d ≡ f v → r ≡ true → best ≡ better f p v best
  no_lower None d q h e t = no_tf t q
  no_lower (Some best) d q h e t = let l = leb-true _ _ (sym (h best q) ∙ t) in not_lower best (omega arith)

  pub has_lower : (best : Option Best) {P : Best → Type 0} (d : ℕ) {r : Bool} → MatchOption best (r ≡ false) P → ((b : Best) → P b → r ≡ leb b.degree d)
      → d ≡ f v → r ≡ false → p v ≡ true → Some (record { degree = f v; node = v }) ≡ better f p v best
  has_lower None d q h e t = taken None tt
  has_lower (Some best) d q h e t = let l = leb-false _ _ (sym (h best q) ∙ t) in taken (Some best) (omega arith)

  pub not_passing : (best : Option Best) → p v ≡ false → best ≡ better f p v best
  unfolding better
  not_passing None e = rw (e, better)
  not_passing (Some best) e = rw (refute (below (f v) best.degree & p v) (λ t. no_tf (and_r _ _ t) e), better)

-- the best so far as two numbers: where there is none, both are higher than any node's
unfoldable pub known : (b n : ℕ) → Option Best → Best
known b n None = record { degree = b; node = n }
known b n (Some best) = best

module _ (f : ℕ → ℕ) (p : ℕ → Bool) (v : ℕ) (best : Best) where
  pub lower : Best
  lower = elim (below (f v) best.degree & p v) [ true ↦ record { degree = f v; node = v } | false ↦ best ]

  lower-stays : below (f v) best.degree & p v ≡ false → best ≡ lower
  unfolding lower
  lower-stays h = rw (h, lower)

  lower-takes : below (f v) best.degree & p v ≡ true → record { degree = f v; node = v } ≡ lower
  unfolding lower
  lower-takes h = rw (h, lower)

pub known-better : (b n : ℕ) (f : ℕ → ℕ) (p : ℕ → Bool) (v : ℕ) → f v < b → (best : Option Best) → known b n (better f p v best) ≡ lower f p v (known b n best)
unfolding better lower known
known-better b n f p v l None =
    let none = known b n None in
    bcase (p v) (λ h. ap (known b n) (sym (taken f p v None tt h)) ∙ lower-takes f p v none (both (lt-below l) h))
    (λ h. ap (known b n) (sym (not_passing f p v None h)) ∙ lower-stays f p v none (refute _ (λ t. no_tf (and_r _ _ t) h)))
known-better b n f p v l (Some best) = each (below (f v) best.degree & p v)
  where
    each : (t : Bool) → known b n (elim t [ true ↦ Some (record { degree = f v; node = v }) | false ↦ Some best ])
        ≡ elim t [ true ↦ record { degree = f v; node = v } | false ↦ best ]
    each true = refl
    each false = refl

pub known-node : (b n : ℕ) (best : Option Best) {P : Best → Type 0} {r : ℕ} → MatchOption best (r ≡ n) P → ((x : Best) → P x → r ≡ x.node)
    → r ≡ (known b n best).node
unfolding known
known-node b n None q h = q
known-node b n (Some best) q h = h best q

-- why a node is no candidate, and why it is one
module _ (n : ℕ) (links : ℕ → ℕ → Bool) (R : ℕ → Bool) (v : ℕ) where
  pub gone : R v ≡ false → candidate_by n links R v ≡ false
  unfolding candidate_by
  gone e = refute _ (λ t. no_tf (and_l _ _ t) e)

  pub no_room : room_by n links v ≡ false → candidate_by n links R v ≡ false
  unfolding candidate_by
  no_room e = refute _ (λ t. no_tf (and_l _ _ (and_r _ _ t)) e)

  pub splitting : splits n links R v ≡ true → candidate_by n links R v ≡ false
  unfolding candidate_by
  splitting e = refute _ (λ t. no_tf e (non-true _ (and_r _ _ (and_r _ _ t))))

  pub fits : R v ≡ true → room_by n links v ≡ true → splits n links R v ≡ false → candidate_by n links R v ≡ true
  unfolding candidate_by
  fits a b c = both a (both b (true-non c))

-- ---- the members of a word, one after the other. Each degree is below b, and b stands for none.

-- no candidate among the nodes passed, or the best of them: it is below all that are left
pub data Found (n b : ℕ) (f : ℕ → ℕ) (p : ℕ → Bool) (left : ℕ) (best : Best) : Type 0 where
  none : best.degree ≡ b → best.node ≡ n → Found n b f p left best
  some : best.node < n → ((u : ℕ) → has left u ≡ true → best.node < u) → p best.node ≡ true → f best.node ≡ best.degree → Found n b f p left best

pub record Searching (n b : ℕ) (f : ℕ → ℕ) (p : ℕ → Bool) (left : ℕ) (best : Best) : Type 0 where
  pub word : left < 2 ^ n
  pub found : Found n b f p left best
  pub least : (u : ℕ) → has left u ≡ false → p u ≡ true → (best.degree < f u) ⊎ ((best.degree ≡ f u) × (best.node ≤ u))

module _ (n b : ℕ) (f : ℕ → ℕ) (p : ℕ → Bool) (low : (v : ℕ) → f v < b) where
  -- what passes is among those that are left at first
  pub searching_none : {left : ℕ} → left < 2 ^ n → ((u : ℕ) → has left u ≡ false → p u ≡ false) → Searching n b f p left (record { degree = b; node = n })
  searching_none w h = record { word = w; found = none refl refl; least = λ u l q. no_tf q (h u l) }

  -- the lowest node is passed
  module _ {left v rest : ℕ} {best : Best} (s : Searching n b f p left best) (z : left ≡ 0 → ⊥) (e : v ≡ least n (has left))
      (r : rest ≡ set_of n (without (has left) v)) where
    here : has left v ≡ true
    here = ap (has left) e ∙ lowest_in n left s.word z

    node : v < n
    node = has-lt n left v s.word here

    passed : (u : ℕ) → (u ≡ v → ⊥) → has rest u ≡ false → has left u ≡ false
    passed u d t =
        refute _ (λ h.
        no_tf (ap (λ (x : ℕ). has x u) r ∙ has-set_of n _ u (has-lt n left u s.word h) ∙ in_without (has left) h (λ q. d (sym q))) t)

    takes : f v < best.degree → p v ≡ true → Searching n b f p rest (record { degree = f v; node = v })
    takes l h = record {
      word = word_lt n _ r;
      found = some node (λ u t.
          let w = set_of_in n _ r u t in
          let d = without-ne (has left) v u w in
          let k = least-found n (has left) u (without_in (has left) v u w) in
          omega arith) h refl;
      least = λ u k q.
          bcase (same u v) (λ t. let g = same-eq u v t in inr (ap f (sym g), omega arith))
          (λ t. inl (⊎_elim (λ x. omega arith) (λ x. let y = x.0 in omega arith) (s.least u (passed u (same-ne u v t) k) q)));
    }

    stays : (p v ≡ true → best.degree ≤ f v) → Searching n b f p rest best
    stays h = record {
      word = word_lt n _ r;
      found = wider s.found;
      least = λ u k q.
          bcase (same u v) (λ t. let g = same-eq u v t in last u g q s.found)
          (λ t. s.least u (passed u (same-ne u v t) k) q);
    }
      where
        wider : Found n b f p left best → Found n b f p rest best
        wider (none x y) = none x y
        wider (some l x y g) = some l (λ u t. x u (without_in (has left) v u (set_of_in n _ r u t))) y g

        last : (u : ℕ) → u ≡ v → p u ≡ true → Found n b f p left best → (best.degree < f u) ⊎ ((best.degree ≡ f u) × (best.node ≤ u))
        last u g q (none x y) = let l = h (sym (ap p g) ∙ q) in let k = low v in absurd (omega arith)
        last u g q (some k x y i) =
            let l = h (sym (ap p g) ∙ q) in
            let j : f u ≡ f v = ap f g in
            let m = x v here in
            bcase (below best.degree (f u)) (λ t. inl (below-lt _ _ t)) (λ t. let o = below-le _ _ t in inr (omega arith, omega arith))

    pub searching_more : {next : Best} → next ≡ lower f p v best → Searching n b f p rest next
    searching_more {next} g =
        subst⁻¹ (Searching n b f p rest) g
        (bcase (below (f v) best.degree & p v)
        (λ t. subst (Searching n b f p rest) (lower-takes f p v best t) (takes (below-lt _ _ (and_l _ _ t)) (and_r _ _ t)))
        (λ t.
        subst (Searching n b f p rest) (lower-stays f p v best t)
        (stays (λ q. bcase (below (f v) best.degree) (λ x. no_tf (both x q) t) (λ x. below-le _ _ x)))))

  pub searching_all : {left : ℕ} {best : Best} → Searching n b f p left best → left ≡ 0 → best.node ≡ least_by b n f p
  searching_all {left} {best} s e = go s.found
    where
      empty : (u : ℕ) → has left u ≡ false
      empty u = ap (λ (x : ℕ). has x u) e ∙ has_0 u

      go : Found n b f p left best → best.node ≡ least_by b n f p
      go (none x y) =
          y
          ∙ sym (least_by-none n f p b (λ u l.
          refute _ (λ q.
          let k = low u in
          ⊎_elim (λ z. omega arith) (λ z. let w = z.0 in omega arith) (s.least u (empty u) q))))
      go (some x w y z) =
          least-by_unique n f p best.node (least_by b n f p)
          (record { low = x; fact = y; first = λ u l q. rw z (s.least u (empty u) q) })
          (least_by-least n f p b (λ u l. low u) (record { at = best.node; low = x; fact = y }))
