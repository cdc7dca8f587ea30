-- The verdicts of start mean what RULES 9.1 says: each is given exactly where its row of specs/Verdicts.antt holds.
use Rattle.std.specs.Prelude.{Err, Ok}
use Rattle.refusal.specs.Verdicts.{Verdict}
use mathlib.Core.Path.{◌≡◌, refl, sym, ◌∙◌, ap, subst}
use mathlib.Core.Bool.{true, false}
use mathlib.Core.List.{List}
use mathlib.Core.Logic.{◌↔◌, ◌⊎◌, inl, inr, ⊎_elim}
use Prim.Native.Nat.{ℕ, ◌/◌, ◌%◌, ◌≤◌, ◌<◌}
use native.Mathlib.Nat.{le_refl, le_of_eq}
use native.Mathlib.Omega.{arith}
use lib.Dec.{leb, eqb}
use lib.ListN.{length}
use borrow.Author.Tests.{le-leb, leb-true, leb-false, eqb-true, eqb-false}
use Rattle.finite.specs.Truth.{below}
use Rattle.finite.specs.Search.{least}
use Rattle.finite.proofs.Truth.{no_tf, bcase, refute, or_l, or_r, or_case, below-lt, below-le}
use Rattle.finite.proofs.Search.{least-before, least-fact, least_unique}
use Rattle.refusal.specs.declared.Refusal.TheVariants.{Unknown}
use Rattle.refusal.proofs.Verdicts.{then-fine, then-fault}
use Rattle.format.specs.Contents.{nodes_in}
use Rattle.image.specs.Faults.{image_fault}
use Rattle.image.proofs.Meaning.{either_means}
use Rattle.messages.specs.Sizes.{max_list}
use Rattle.messages.specs.Fresh.{source_in, target_in}
use Rattle.start.specs.Start.{strange, list_fault, start_fault}
use Rattle.start.specs.Verdicts.{BothNodes, OfList, odd, over, unknown, fine, OfStart, of_image, of_list}
use Rattle.start.proofs.Cases.{odd-list, long-list, strange-list, fine-list}

module _ (n : ℕ) (list : List ℕ) where
  -- ---- a strange pair has an end that is no node

  strange-end : (p : ℕ) → (n ≤ source_in list p) ⊎ (n ≤ target_in list p) → strange n list p ≡ true
  unfolding strange
  strange-end p = ⊎_elim (λ h. or_l _ (le-leb _ _ h)) (λ h. or_r _ (le-leb _ _ h))

  both-nodes : (p : ℕ) → strange n list p ≡ false → BothNodes n list p
  unfolding strange
  both-nodes p f = (
    bcase (leb n (source_in list p)) (λ t. no_tf (or_l _ t) f) (λ t. leb-false _ _ t),
    bcase (leb n (target_in list p)) (λ t. no_tf (or_r _ t) f) (λ t. leb-false _ _ t),
  )

  end-strange : (p : ℕ) → strange n list p ≡ true → (n ≤ source_in list p) ⊎ (n ≤ target_in list p)
  unfolding strange
  end-strange p h = or_case _ _ h (λ t. inl (leb-true _ _ t)) (λ t. inr (leb-true _ _ t))

  not-strange : (p : ℕ) → BothNodes n list p → strange n list p ≡ false
  not-strange p (a, b) = refute _ (λ t. ⊎_elim (λ h. absurd (omega arith)) (λ h. absurd (omega arith)) (end-strange p t))

  -- ---- the rows

  list-given : {v : Verdict} → OfList n list v → list_fault n list ≡ v
  list-given (odd h) = sym (odd-list n list h)
  list-given (over h) = sym (long-list n list h)
  list-given (unknown p e s l x q) =
      let at = least_unique (length list / 2) (strange n list) p (omega arith) (λ k. strange-end p x) (λ u k. not-strange u (q u k)) in
      sym (strange-list n list e s (subst (λ (i : ℕ). i < length list / 2) (sym at) l)) ∙ ap (λ (i : ℕ). Err (Unknown i)) at
  list-given (fine e s q) =
      let at = least_unique (length list / 2) (strange n list) (length list / 2) (le_refl _) (λ k. absurd (omega arith)) (λ u k. not-strange u (q u k)) in
      sym (fine-list n list e s (le_of_eq (sym at)))

  list-row : OfList n list (list_fault n list)
  list-row =
      bcase (eqb (length list % 2) 0)
      (λ t.
      bcase (leb (length list) max_list)
      (λ s.
      let even : length list % 2 ≡ 0 = eqb-true _ _ t in
      let short : length list ≤ max_list = leb-true _ _ s in
      let p : ℕ = least (length list / 2) (strange n list) in
      let before : (q : ℕ) → q < p → BothNodes n list q = λ q l. both-nodes q (least-before (length list / 2) (strange n list) q l) in
      bcase (below p (length list / 2))
      (λ l.
      let low = below-lt _ _ l in
      subst (OfList n list) (strange-list n list even short low)
      (unknown p even short low (end-strange p (least-fact _ _ low)) before))
      (λ l.
      let high = below-le _ _ l in
      subst (OfList n list) (fine-list n list even short high) (fine even short (λ q k. before q (omega arith)))))
      (λ s. let h = leb-false _ _ s in subst (OfList n list) (long-list n list h) (over h)))
      (λ t. let h = eqb-false _ _ t in subst (OfList n list) (odd-list n list h) (odd h))

  -- RULES 9.1: "given exactly when", of a message list
  pub list_means : (v : Verdict) → (list_fault n list ≡ v) ↔ OfList n list v
  list_means v = (λ e. subst (OfList n list) e list-row, list-given)

-- RULES 9.1: "given exactly when", of a start
pub start_means : (b list : List ℕ) (v : Verdict) → (start_fault b list ≡ v) ↔ OfStart b list v
start_means b list v = (row (image_fault b) refl, given)
  where
    row : (w : Verdict) → image_fault b ≡ w → start_fault b list ≡ v → OfStart b list v
    row (Ok _) h e = of_list ((either_means b (Ok tt)).0 h) ((list_means (nodes_in b) list v).0 (sym (then-fine _ h) ∙ e))
    row (Err r) h e = subst (OfStart b list) (sym (then-fault _ h) ∙ e) (of_image ((either_means b (Err r)).0 h))

    given : {w : Verdict} → OfStart b list w → start_fault b list ≡ w
    given (of_image h) = then-fault _ ((either_means b _).1 h)
    given (of_list h l) = then-fine _ ((either_means b (Ok tt)).1 h) ∙ (list_means (nodes_in b) list _).1 l
