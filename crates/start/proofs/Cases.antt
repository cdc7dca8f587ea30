-- The checks of a message list, and what start leaves, case by case.
use Rattle.std.specs.Prelude.{Some, None, Result, Err, Ok}
use Rattle.refusal.specs.Verdicts.{Verdict}
use mathlib.Core.Path.{◌≡◌, refl, sym, ◌∙◌, ap}
use mathlib.Core.Bool.{true}
use mathlib.Core.List.{List}
use Prim.Native.Nat.{ℕ, ◌≤◌, ◌<◌, ◌/◌, ◌%◌}
use native.Mathlib.Omega.{arith}
use lib.Dec.{leb, eqb}
use lib.ListN.{length}
use borrow.Author.Tests.{le-leb, lt-leb, eqb-true}
use Rattle.finite.specs.Truth.{◌&◌, ◌or◌}
use Rattle.finite.specs.Search.{least}
use Rattle.finite.specs.Lowest.{lowest}
use Rattle.finite.proofs.Lowest.{found-lowest, none-lowest}
use Rattle.finite.proofs.Truth.{no_tf, refute, both, and_l, and_r, lt-below, le_below}
use Rattle.refusal.specs.declared.Refusal.{Refusal}
use Rattle.refusal.specs.declared.Refusal.TheVariants.{Unknown, Messages}
use Rattle.refusal.proofs.Verdicts.{then-fine, then-fault}
use Rattle.fabric.specs.declared.Fabric.{Fabric}
use Rattle.fabric.specs.Fabric.{fabric_of, made_by}
use Rattle.fabric.proofs.Making.{fault-made, fine-made}
use Rattle.image.specs.Image.{cabling_in}
use Rattle.image.specs.Faults.{image_fault}
use Rattle.messages.specs.declared.Record.{Record}
use Rattle.messages.specs.Sizes.{max_list}
use Rattle.messages.specs.Fresh.{source_in, target_in}
use Rattle.start.specs.Start.{fits, strange, list_fault, start_fault, fresh_in, fresh_of, fresh_by, record_after, beside, start_of}

-- a source that is no node; else the destination decides
pub strange-source : (n : ℕ) (list : List ℕ) (p : ℕ) → n ≤ source_in list p → true ≡ strange n list p
unfolding strange ◌or◌
strange-source n list p h = rw (le-leb _ _ h, strange)

pub strange-target : (n : ℕ) (list : List ℕ) (p : ℕ) → source_in list p < n → leb n (target_in list p) ≡ strange n list p
unfolding strange ◌or◌
strange-target n list p h = rw (lt-leb _ _ h, strange)

-- 11
pub odd-list : (n : ℕ) (list : List ℕ) → (length list % 2 ≡ 0 → ⊥) → Err Messages ≡ list_fault n list
unfolding list_fault fits
odd-list n list h = rw (refute (eqb (length list % 2) 0 & leb (length list) max_list) (λ t. h (eqb-true _ _ (and_l _ _ t))), list_fault)

pub long-list : (n : ℕ) (list : List ℕ) → max_list < length list → Err Messages ≡ list_fault n list
unfolding list_fault fits
long-list n list h = rw (refute (eqb (length list % 2) 0 & leb (length list) max_list) (λ t. no_tf (and_r _ _ t) (lt-leb _ _ h)), list_fault)

module _ (n : ℕ) (list : List ℕ) (even : length list % 2 ≡ 0) (short : length list ≤ max_list) where
  fitting : fits list ≡ true
  unfolding fits
  fitting = both (rw even refl) (le-leb _ _ short)

  pub strange-list : least (length list / 2) (strange n list) < length list / 2 → Err (Unknown (least (length list / 2) (strange n list))) ≡ list_fault n list
  unfolding list_fault
  strange-list h = rw (fitting, lt-below h, list_fault)

  pub fine-list : length list / 2 ≤ least (length list / 2) (strange n list) → Ok tt ≡ list_fault n list
  unfolding list_fault
  fine-list h = rw (fitting, le_below h, list_fault)

  -- by the first strange message
  pub found-list : {p : ℕ} → lowest (length list / 2) (strange n list) ≡ Some p → Err (Unknown p) ≡ list_fault n list
  found-list h = let f = found-lowest _ _ h in ap (λ (p : ℕ). Err (Unknown p)) (sym f.0) ∙ strange-list (let e = f.0 in let l = f.1 in omega arith)

  pub none-list : lowest (length list / 2) (strange n list) ≡ None → Ok tt ≡ list_fault n list
  none-list h = fine-list (none-lowest _ _ h)

-- what start leaves, by its verdict
module _ (old : Record) (b list : List ℕ) where
  pub start-by : {v : Verdict} → start_fault b list ≡ v → beside v (record_after v old (fresh_of b list)) ≡ start_of old b list
  unfolding start_of
  start-by e = cc

-- what a fresh start answers tells the verdict, and where that is fine, the record
pub fault-fresh : (v : Verdict) (r : Record) {f : Refusal} → fresh_by v r ≡ Err f → v ≡ Err f
unfolding fresh_by
fault-fresh (Ok _) r h = absurd (let z : ◌≡◌ {A = ℕ} 0 1 = cc in omega arith)
fault-fresh (Err q) r h = cc

pub fine-fresh : (v : Verdict) (r : Record) {x : Record} → fresh_by v r ≡ Ok x → (v ≡ Ok tt) × (x ≡ r)
unfolding fresh_by
fine-fresh (Ok _) r h = (refl, cc)
fine-fresh (Err q) r h = absurd (let z : ◌≡◌ {A = ℕ} 0 1 = cc in omega arith)

-- the record that a start begins with, or the fault; the verdict comes from what the image opens as, and then from the list
module _ (b list : List ℕ) where
  fresh-fault : {r : Refusal} → start_fault b list ≡ Err r → Err r ≡ fresh_by (start_fault b list) (fresh_of b list)
  unfolding fresh_by
  fresh-fault e = rw e

  -- the image is refused
  pub fresh-image : {m : Result Fabric Refusal} {r : Refusal} → m ≡ made_by (image_fault b) (cabling_in b) → m ≡ Err r
      → Err r ≡ fresh_by (start_fault b list) (fresh_of b list)
  fresh-image e h = fresh-fault (then-fault _ (fault-made _ e h))

  module _ {m : Result Fabric Refusal} {f : Fabric} (e : m ≡ made_by (image_fault b) (cabling_in b)) (h : m ≡ Ok f) {v : Verdict} (l : v ≡ list_fault f.nodes list) where
    made : f ≡ fabric_of (cabling_in b)
    made = (fine-made _ e h).1

    checked : start_fault b list ≡ v
    unfolding fabric_of
    checked = then-fine _ (fine-made _ e h).0 ∙ ap (λ (f : Fabric). list_fault f.nodes list) (sym made) ∙ sym l

    pub fresh-list : {r : Refusal} → v ≡ Err r → Err r ≡ fresh_by (start_fault b list) (fresh_of b list)
    fresh-list k = fresh-fault (checked ∙ k)

    pub fresh-fine : v ≡ Ok tt → {x : Record} → x ≡ fresh_in f list → Ok x ≡ fresh_by (start_fault b list) (fresh_of b list)
    unfolding fresh_by fresh_of
    fresh-fine k x = let z : start_fault b list ≡ Ok tt = checked ∙ k in rw (z, x, made) refl

  -- what start leaves, by that
  module _ (old : Record) {m : Result Record Refusal} (e : m ≡ fresh_by (start_fault b list) (fresh_of b list)) where
    pub start-refused : {r : Refusal} → m ≡ Err r → beside (Err r) old ≡ start_of old b list
    unfolding record_after
    start-refused h = start-by old b list (fault-fresh _ _ (sym e ∙ h))

    pub start-begun : {x : Record} → m ≡ Ok x → beside (Ok tt) x ≡ start_of old b list
    unfolding record_after
    start-begun h = let f = fine-fresh _ _ (sym e ∙ h) in rw f.1 (start-by old b list f.0)
