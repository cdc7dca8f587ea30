-- What `row` and `hop` answer, by RULES 7.5: refused exactly when there is a fault, else the bytes of the table of the class, as stored; and of hop each answer
-- with its values.
use mathlib.Core.Path.{◌≡◌, refl, sym, ◌∙◌, ap}
use mathlib.Core.Bool.{true}
use mathlib.Core.List.{List, []}
use mathlib.Core.Logic.{◌⊎◌, inl, inr, ⊎_elim, ◌↔◌}
use Prim.Native.Nat.{ℕ, ◌+◌, ◌*◌, ◌≤◌, ◌<◌}
use native.Mathlib.Omega.{arith}
use Rattle.std.specs.Prelude.{Err}
use lib.ListN.{length, get_or}
use lib.Seq.{get_or-take, get_or-drop}
use Rattle.finite.specs.Truth.{same, below}
use Rattle.finite.proofs.Truth.{no_tf, bcase, same-eq, same-ne, below-lt, below-le}
use Rattle.lawful.specs.Turn.{label_in}
use Rattle.lawful.specs.Entry.{none}
use Rattle.refusal.specs.Number.{number_of, place_of}
use Rattle.refusal.specs.declared.Refusal.{Refusal}
use Rattle.refusal.specs.declared.Refusal.TheVariants.{Unknown}
use Rattle.hops.specs.Row.{RowFault, row_known, table_in, row_in}
use Rattle.hops.specs.Hop.{HopAnswer, stored_in, class_after, onward_of, hop_in, HopFault, of_row, no-destination, labels-size, no-next, ClassThen, as_it_came, is-falling, is_free, OfHop, refused, no_way, next}
use Rattle.hops.proofs.Lookup.{known_faultless, fault-unknown, unknown-fault, row-refused, row-known, row-length}
use Rattle.hops.proofs.Cases.{class-here, class-falling, class-fall, class-free, onward-none, onward_past, onward-next, Lent, hop-known, hop-unknown, lent_or_not}

module _ (free falling : List ℕ) (n node class : ℕ) where
  fine : (RowFault free falling n node class → ⊥) → row_known free falling n node class ≡ true
  fine h = bcase (row_known free falling n node class) (λ t. t) (λ f. absurd (h (unknown-fault free falling n node class f)))

  -- RULES 7.5: "an empty part means refusal 10": it is given exactly when there is a fault
  pub row-refused-iff : (row_in free falling n node class ≡ []) ↔ RowFault free falling n node class
  row-refused-iff = (
    λ e.
        bcase (row_known free falling n node class)
        (λ t.
        let l = row-length free falling n node class t in
        let z = ap length e in
        let k = known_faultless free falling n node class t in
        absurd (omega arith))
        (unknown-fault free falling n node class),
    λ f. row-refused free falling n node class (fault-unknown free falling n node class f),
  )

  -- else it has a byte for each destination, that of the table of its class in row node
  pub row-size : (RowFault free falling n node class → ⊥) → length (row_in free falling n node class) ≡ n
  row-size h = row-length free falling n node class (fine h)

  pub row-byte : (RowFault free falling n node class → ⊥) → (t : ℕ) → t < n
      → get_or (row_in free falling n node class) t 0 ≡ get_or (table_in free falling class) (node * n + t) 0
  row-byte h t l = rw (row-known free falling n node class (fine h)) (get_or-take n _ t 0 l ∙ get_or-drop (node * n) (table_in free falling class) t 0)

  module _ (labels : List ℕ) (destination : ℕ) where
    abbrev byte : ℕ
    byte = stored_in free falling n node class destination

    -- RULES 7.5: "It reads the byte of that row for the destination.": the one at row `node` and column `destination` of the table of the class
    pub stored-byte : (RowFault free falling n node class → ⊥) → destination < n → byte ≡ get_or (table_in free falling class) (node * n + destination) 0
    stored-byte h l = row-byte h destination l

    -- what is lent has no fault, or that is one; then the byte may be neither a node nor 255
    unlent : (Lent labels free falling n node class destination → ⊥) → HopFault labels free falling n node class destination
    unlent f =
        bcase (row_known free falling n node class)
        (λ r.
        bcase (below destination n)
        (λ b.
        bcase (same (length labels) n) (λ e. absurd (f (record { row = r; there = below-lt _ _ b; labelled = same-eq _ _ e })))
        (λ e. labels-size (same-ne _ _ e)))
        (λ b. no-destination (below-le _ _ b)))
        (λ r. of_row (unknown-fault free falling n node class r))

    lent : (HopFault labels free falling n node class destination → ⊥) → Lent labels free falling n node class destination
    lent h = lent_or_not labels free falling n node class destination (λ k. k) (λ f. absurd (h (unlent f)))

    sound : Lent labels free falling n node class destination → (byte ≡ none) ⊎ (byte < n) → HopFault labels free falling n node class destination → ⊥
    sound k b (of_row f) = no_tf k.row (fault-unknown free falling n node class f)
    sound k b (no-destination l) = let t = k.there in omega arith
    sound k b (labels-size d) = d k.labelled
    sound k b (no-next l d) = ⊎_elim d (λ k. omega arith) b

    faulty-hop : HopFault labels free falling n node class destination → hop_in labels free falling n node class destination ≡ Err (Unknown 0)
    faulty-hop f =
        bcase (below byte n) (λ b. unknown (λ k. sound k (inr (below-lt _ _ b)) f))
        (λ b.
        bcase (same byte none) (λ e. unknown (λ k. sound k (inl (same-eq _ _ e)) f))
        (λ e.
        lent_or_not labels free falling n node class destination
        (λ k. hop-known labels free falling n node class destination k ∙ onward_past labels n node class destination byte (same-ne _ _ e) (below-le _ _ b))
        unknown))
      where
        unknown : (Lent labels free falling n node class destination → ⊥) → hop_in labels free falling n node class destination ≡ Err (Unknown 0)
        unknown = hop-unknown labels free falling n node class destination

    node-low : (HopFault labels free falling n node class destination → ⊥) → (byte ≡ none → ⊥) → byte < n
    node-low h d = bcase (below byte n) (below-lt _ _) (λ f. absurd (h (no-next (below-le _ _ f) d)))

    class_low : (HopFault labels free falling n node class destination → ⊥) → class ≤ 1
    class_low h = (known_faultless free falling n node class (fine (λ f. h (of_row f)))).class_low

    -- ---- the class

    class-is : class ≤ 1 → ClassThen labels node class destination byte (class_after labels node class destination byte)
    class-is l =
        bcase (same node destination) (λ t. let e = same-eq _ _ t in rw (class-here labels node class destination byte e) (as_it_came e))
        (λ t.
        let away = same-ne _ _ t in
        bcase (same class 1) (λ c. let e = same-eq _ _ c in rw (class-falling labels node class destination byte away e) (is-falling away (inl e)))
        (λ c.
        let d = same-ne _ _ c in
        bcase (below (label_in labels byte) (label_in labels node))
        (λ b. let k = below-lt _ _ b in rw (class-fall labels node class destination byte away k) (is-falling away (inr k)))
        (λ b. let k = below-le _ _ b in rw (class-free labels node class destination byte away d k) (is_free away (omega arith) k))))

    class-then : {then : ℕ} → ClassThen labels node class destination byte then → then ≡ class_after labels node class destination byte
    class-then (as_it_came e) = sym (class-here labels node class destination byte e)
    class-then (is-falling away (inl e)) = sym (class-falling labels node class destination byte away e)
    class-then (is-falling away (inr l)) = sym (class-fall labels node class destination byte away l)
    class-then (is_free away e l) = sym (class-free labels node class destination byte away (λ q. omega arith) l)

    -- ---- each answer, with its number and its values, exactly when RULES 7.5 and RULES 9.1 say so

    answer-is : OfHop labels free falling n node class destination (hop_in labels free falling n node class destination)
    answer-is =
        lent_or_not labels free falling n node class destination
        (λ k.
        bcase (same byte none)
        (λ e.
        let q = same-eq _ _ e in
        rw (hop-known labels free falling n node class destination k ∙ onward-none labels n node class destination byte q) (no_way (sound k (inl q)) q))
        (λ e.
        let d = same-ne _ _ e in
        bcase (below byte n)
        (λ b.
        let l = below-lt _ _ b in
        let h = sound k (inr l) in
        rw (hop-known labels free falling n node class destination k ∙ onward-next labels n node class destination byte d l refl) (next h d (class-is (class_low h))))
        (λ b. let f = no-next (below-le _ _ b) d in rw (faulty-hop f) (refused f))))
        (λ k. let f = unlent k in rw (faulty-hop f) (refused f))

    answer-from : {a : HopAnswer} → OfHop labels free falling n node class destination a → hop_in labels free falling n node class destination ≡ a
    answer-from (refused f) = faulty-hop f
    answer-from (no_way h e) = hop-known labels free falling n node class destination (lent h) ∙ onward-none labels n node class destination byte e
    answer-from (next h d c) = hop-known labels free falling n node class destination (lent h) ∙ onward-next labels n node class destination byte d (node-low h d) (class-then c)

    pub hop_means : (a : HopAnswer) → (hop_in labels free falling n node class destination ≡ a) ↔ OfHop labels free falling n node class destination a
    hop_means a = (λ e. rw (← e) answer-is, answer-from)

    -- a refusal is number 10 at place 0
    pub hop_refusal : (r : Refusal) → hop_in labels free falling n node class destination ≡ Err r → (number_of r ≡ 10) × (place_of r ≡ 0)
    hop_refusal r e = of_number r ((hop_means (Err r)).0 e)
      where
        of_number : (r : Refusal) → OfHop labels free falling n node class destination (Err r) → (number_of r ≡ 10) × (place_of r ≡ 0)
        of_number _ (refused f) = (refl, refl)

    pub hop-refused-iff : (hop_in labels free falling n node class destination ≡ Err (Unknown 0)) ↔ HopFault labels free falling n node class destination
    hop-refused-iff = (λ e. fault ((hop_means (Err (Unknown 0))).0 e), faulty-hop)
      where
        fault : OfHop labels free falling n node class destination (Err (Unknown 0)) → HopFault labels free falling n node class destination
        fault (refused f) = f

-- RULES 7.5: "Of the bytes of the tables hop looks at that one alone.": other tables of the same lengths with the same byte there give the same answer
module _ (labels : List ℕ) (n node class destination : ℕ) where
  abbrev byte-there : List ℕ → List ℕ → ℕ
  byte-there free falling = get_or (table_in free falling class) (node * n + destination) 0

  hop-there : (free falling : List ℕ) → Lent labels free falling n node class destination
      → hop_in labels free falling n node class destination ≡ onward_of labels n node class destination (byte-there free falling)
  hop-there free falling k =
      let sound : RowFault free falling n node class → ⊥ = λ f. no_tf k.row (fault-unknown free falling n node class f) in
      hop-known labels free falling n node class destination k
      ∙ ap (onward_of labels n node class destination) (stored-byte free falling n node class labels destination sound k.there)

  pub hop-one-byte : (free falling free-2 falling-2 : List ℕ) → length free-2 ≡ length free → length falling-2 ≡ length falling
      → byte-there free-2 falling-2 ≡ byte-there free falling
      → hop_in labels free-2 falling-2 n node class destination ≡ hop_in labels free falling n node class destination
  unfolding row_known
  hop-one-byte free falling free-2 falling-2 p q e =
      lent_or_not labels free falling n node class destination
      (λ k.
      hop-there free-2 falling-2 (record { row = alike ∙ k.row; there = k.there; labelled = k.labelled })
      ∙ ap (onward_of labels n node class destination) e ∙ sym (hop-there free falling k))
      (λ f.
      hop-unknown labels free-2 falling-2 n node class destination
      (λ k. f (record { row = sym alike ∙ k.row; there = k.there; labelled = k.labelled }))
      ∙ sym (hop-unknown labels free falling n node class destination f))
    where
      alike : row_known free-2 falling-2 n node class ≡ row_known free falling n node class
      alike = rw (p, q)
