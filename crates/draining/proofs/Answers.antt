-- What `drain` answers, from what its calls answer.
use Rattle.std.specs.Prelude.{Result, Err, Ok}
use Rattle.refusal.specs.Verdicts.{Verdict}
use mathlib.Core.Path.{◌≡◌, refl, sym, ◌∙◌, ap}
use mathlib.Core.List.{List}
use Prim.Native.Nat.{ℕ}
use Rattle.refusal.specs.declared.Refusal.{Refusal}
use Rattle.messages.specs.declared.Record.{Record}
use Rattle.start.specs.Start.{start_fault, fresh_of, fresh_by, record_after}
use Rattle.start.proofs.Cases.{fault-fresh, fine-fresh}
use Rattle.draining.specs.declared.Drained.{Drained}
use Rattle.draining.specs.Drained.{end_of, drain_of}

module _ (old : Record) (b list : List ℕ) (seed : ℕ) where
  recorded : (v : Verdict) (last : Record) → start_fault b list ≡ v → last ≡ record_after v old (end_of b list seed) → record { verdict = v; «record» = last } ≡ drain_of old b list seed
  unfolding drain_of
  recorded v last e f = cc

  -- by the record that it ends with, or the fault
  module _ {m : Result Record Refusal} (e : m ≡ fresh_by (start_fault b list) (end_of b list seed)) where
    pub ended_refused : {r : Refusal} → m ≡ Err r → record { verdict = Err r; «record» = old } ≡ drain_of old b list seed
    unfolding record_after
    ended_refused {r} h = recorded (Err r) old (fault-fresh _ _ (sym e ∙ h)) refl

    pub ended_fine : {x : Record} → m ≡ Ok x → record { verdict = Ok tt; «record» = x } ≡ drain_of old b list seed
    unfolding record_after
    ended_fine h = let f = fine-fresh _ _ (sym e ∙ h) in recorded (Ok tt) _ f.0 f.1

-- the record that it ends with, or the fault of its start
module _ (b list : List ℕ) (seed : ℕ) where
  pub fault_ends : {m : Result Record Refusal} {r : Refusal} → m ≡ fresh_by (start_fault b list) (fresh_of b list) → m ≡ Err r
      → Err r ≡ fresh_by (start_fault b list) (end_of b list seed)
  unfolding fresh_by
  fault_ends e h = rw (fault-fresh _ _ (sym e ∙ h)) refl

  pub fine_ends : start_fault b list ≡ Ok tt → {last : Record} → last ≡ end_of b list seed → Ok last ≡ fresh_by (start_fault b list) (end_of b list seed)
  unfolding fresh_by
  fine_ends v e = rw (v, e) refl

-- what a caller reads off an answer of `drain`
module _ (old : Record) (b list : List ℕ) (seed : ℕ) {x : Drained} (e : x ≡ drain_of old b list seed) where
  pub drain-verdict : x.verdict ≡ start_fault b list
  unfolding drain_of
  drain-verdict = ap (λ (d : Drained). d.verdict) e

  pub drain-record : start_fault b list ≡ Ok tt → x.«record» ≡ end_of b list seed
  unfolding drain_of record_after
  drain-record v = ap (λ (d : Drained). d.«record») e ∙ ap (λ (w : Verdict). record_after w old (end_of b list seed)) v
