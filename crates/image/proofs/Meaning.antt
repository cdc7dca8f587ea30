-- The verdicts on an image mean what RULES 9.1 says: each is given exactly where its row of specs/Verdicts.antt holds.
use Rattle.std.specs.Prelude.{Err, Ok}
use Rattle.refusal.specs.Verdicts.{Verdict}
use mathlib.Core.Path.{◌≡◌, refl, sym, ◌∙◌, subst}
use mathlib.Core.Bool.{Bool, true, false}
use mathlib.Core.List.{List}
use mathlib.Core.Logic.{◌↔◌}
use Prim.Native.Nat.{ℕ}
use lib.ListN.{drop}
use Rattle.finite.specs.Truth.{same}
use Rattle.finite.proofs.Truth.{no_tf, bcase, refute, same-eq, same-ne}
use Rattle.finite.proofs.Decide.{by}
use Rattle.refusal.specs.declared.Refusal.TheVariants.{Short}
use Rattle.refusal.proofs.Verdicts.{then-fine, then-fault}
use Rattle.cabling.specs.Verdicts.{Means, means_count}
use Rattle.cabling.proofs.Tests.{decide_counted}
use Rattle.cabling.proofs.Meaning.{fault_means}
use Rattle.format.specs.Contents.{in_order, links_kinds, full_kinds, nodes_in, zero_in}
use Rattle.format.specs.Order.{InOrder}
use Rattle.format.specs.Bytes.{same_bodies}
use Rattle.format.proofs.Order.{in_order_iff}
use Rattle.format.proofs.Bodies.{same-bodies-iff}
use Rattle.image.specs.Image.{bodies_of, cabling_in}
use Rattle.image.specs.Faults.{cabling_fault, links_fault, image_fault}
use Rattle.image.specs.Verdicts.{KindOne, count, second, cabling, ByTheRules, OfLinks, broken, ordered, OfEither, neither, links, faulty, differs, full}
use Rattle.image.proofs.Faults.{front-count, front_shape, front-fine, tables-fine, tables-differ, links-ordered, links-broken, image-full, image-links, image-ordered}

module _ (b : List ℕ) where
  -- ---- 2 to 7

  kind-one-given : {v : Verdict} → KindOne b v → cabling_fault b ≡ v
  kind-one-given (count c) = then-fault _ (front-count b c)
  kind-one-given (second c h) = then-fault _ (front_shape b c h)
  kind-one-given {v} (cabling z m) =
      let f = (fault_means (cabling_in b) v).1 m in
      by (decide_counted (nodes_in b)) (λ c. then-fine _ (front-fine b c z) ∙ f)
      (λ c. then-fault _ (front-count b c) ∙ sym ((fault_means (cabling_in b) _).1 (means_count c)) ∙ f)

  kind-one : KindOne b (cabling_fault b)
  kind-one =
      by (decide_counted (nodes_in b))
      (λ c.
      bcase (same (zero_in b) 0)
      (λ t.
      let z = same-eq _ _ t in
      subst (KindOne b) (sym (then-fine _ (front-fine b c z))) (cabling z ((fault_means (cabling_in b) _).0 refl)))
      (λ t. let z = same-ne _ _ t in subst (KindOne b) (sym (then-fault _ (front_shape b c z))) (second c z)))
      (λ c. subst (KindOne b) (sym (then-fault _ (front-count b c))) (count c))

  kind-one_as : {v : Verdict} → cabling_fault b ≡ v → KindOne b v
  kind-one_as e = subst (KindOne b) e kind-one

  -- ---- 1

  in_words : (k : ℕ) → in_order b k ≡ true → InOrder b k
  in_words k = (in_order_iff b k).0

  by_test : (k : ℕ) → InOrder b k → in_order b k ≡ true
  by_test k = (in_order_iff b k).1

  not_in_words : (k : ℕ) → in_order b k ≡ false → InOrder b k → ⊥
  not_in_words k f w = no_tf (by_test k w) f

  fails_test : (k : ℕ) → (InOrder b k → ⊥) → in_order b k ≡ false
  fails_test k h = refute (in_order b k) (λ t. h (in_words k t))

  -- RULES 9.1: "given exactly when", of a links image
  links-given : {v : Verdict} → OfLinks b v → links_fault b ≡ v
  links-given (broken h) = links-broken b (fails_test links_kinds h)
  links-given (ordered w k) = links-ordered b (by_test links_kinds w) ∙ kind-one-given k

  links-row : OfLinks b (links_fault b)
  links-row =
      bcase (in_order b links_kinds) (λ t. subst (OfLinks b) (sym (links-ordered b t)) (ordered (in_words links_kinds t) kind-one))
      (λ f. subst (OfLinks b) (sym (links-broken b f)) (broken (not_in_words links_kinds f)))

  pub links_means : (v : Verdict) → (links_fault b ≡ v) ↔ OfLinks b v
  links_means v = (λ e. subst (OfLinks b) e links-row, links-given)

  -- ---- 8

  abbrev agreeing : Bool
  agreeing = same_bodies b 1 (drop 1 (bodies_of (cabling_in b)))

  rules_agree : ByTheRules b → agreeing ≡ true
  unfolding bodies_of
  rules_agree e = (same-bodies-iff b 1 (drop 1 (bodies_of (cabling_in b)))).1 e

  agree_rules : agreeing ≡ true → ByTheRules b
  unfolding bodies_of
  agree_rules t = (same-bodies-iff b 1 (drop 1 (bodies_of (cabling_in b)))).0 t

  either_given : {v : Verdict} → OfEither b v → image_fault b ≡ v
  either_given (neither l f) = image-links b (fails_test full_kinds f) ∙ links-broken b (fails_test links_kinds l)
  either_given (links w k) = image-ordered b (by_test links_kinds w) ∙ kind-one-given k
  either_given (faulty w k) = image-full b (by_test full_kinds w) ∙ then-fault _ (kind-one-given k)
  either_given (differs w k h) =
      image-full b (by_test full_kinds w) ∙ then-fine _ (kind-one-given k) ∙ tables-differ b (refute agreeing (λ t. h (agree_rules t)))
  either_given (full w k e) = image-full b (by_test full_kinds w) ∙ then-fine _ (kind-one-given k) ∙ tables-fine b (rules_agree e)

  -- the row of an image with the contents of a full one
  full-row : in_order b full_kinds ≡ true → (v : Verdict) → cabling_fault b ≡ v → OfEither b (image_fault b)
  full-row t (Err r) e = subst (OfEither b) (sym (image-full b t ∙ then-fault _ e)) (faulty (in_words full_kinds t) (kind-one_as e))
  full-row t (Ok _) e =
      let k = kind-one_as e in
      let h = image-full b t ∙ then-fine _ e in
      bcase agreeing (λ a. subst (OfEither b) (sym (h ∙ tables-fine b a)) (full (in_words full_kinds t) k (agree_rules a)))
      (λ a. subst (OfEither b) (sym (h ∙ tables-differ b a)) (differs (in_words full_kinds t) k (λ r. no_tf (rules_agree r) a)))

  either_row : OfEither b (image_fault b)
  either_row =
      bcase (in_order b full_kinds) (λ t. full-row t (cabling_fault b) refl)
      (λ f.
      subst (OfEither b) (sym (image-links b f))
      (bcase (in_order b links_kinds) (λ t. subst (OfEither b) (sym (links-ordered b t)) (links (in_words links_kinds t) kind-one))
      (λ l. subst (OfEither b) (sym (links-broken b l)) (neither (not_in_words links_kinds l) (not_in_words full_kinds f)))))

  -- RULES 9.1: "given exactly when", of either image
  pub either_means : (v : Verdict) → (image_fault b ≡ v) ↔ OfEither b v
  either_means v = (λ e. subst (OfEither b) e either_row, either_given)

  -- 9 is no verdict on an image
  no_short : KindOne b (Err Short) → ⊥
  no_short (cabling z m) = none m
    where
      none : Means (cabling_in b) (Err Short) → ⊥
      none = elim [ ]

  pub links-not-short : links_fault b ≡ Err Short → ⊥
  links-not-short e = links-none ((links_means (Err Short)).0 e)
    where
      links-none : OfLinks b (Err Short) → ⊥
      links-none (ordered w k) = no_short k

  pub image-not-short : image_fault b ≡ Err Short → ⊥
  image-not-short e = either_none ((either_means (Err Short)).0 e)
    where
      either_none : OfEither b (Err Short) → ⊥
      either_none (links w k) = no_short k
      either_none (faulty w k) = no_short k
