-- What `read` answers, from what it wrote; what a refused read and a read that answers leave.
use Rattle.std.specs.Prelude.{Err, Ok}
use mathlib.Core.Path.{◌≡◌, refl, sym, ◌∙◌, ap}
use mathlib.Core.Bool.{Bool}
use mathlib.Core.List.{List}
use Prim.Native.Nat.{ℕ, ◌/◌}
use native.Mathlib.Omega.{arith}
use lib.ListN.{length, take, drop}
use Rattle.refusal.specs.declared.Refusal.{Refusal}
use Rattle.format.specs.Contents.{in_order, full_kinds, nodes_in, pairs_in}
use Rattle.format.specs.Bytes.{AllBytes}
use Rattle.results.specs.Written.{written_of, Writes, Written}
use Rattle.results.proofs.Meaning.{refused-untouched, written-front, not-refused, written-size}
use Rattle.image.specs.Faults.{image_fault}
use Rattle.reading.specs.declared.Summary.{Summary}
use Rattle.reading.specs.Reads.{Outcome, read_as, outcome_of, Reads}

module _ (b : List ℕ) where
  pub reads : {before after : List ℕ} {w : Written} {answer : Outcome} → AllBytes b → Writes (image_fault b) (pairs_in b) before w after → answer ≡ outcome_of b w
      → Reads b before answer after
  reads byte h e = record { answers = e ∙ ap (outcome_of b) h.answers; leaves = h.leaves; bytes = byte }

  -- any two outcomes that the promise allows are equal
  pub reads_determined : {before : List ℕ} {r s : Outcome} {l m : List ℕ} → Reads b before r l → Reads b before s m → (r ≡ s) × (l ≡ m)
  reads_determined x y = (x.answers ∙ sym y.answers, x.leaves ∙ sym y.leaves)

read_not_refused : {n m : ℕ} {f : Bool} {r : Refusal} → Err r ≡ read_as n m f → ⊥
read_not_refused e = let z : ◌≡◌ {A = ℕ} 0 1 = cc in omega arith

-- what was written, from what is answered
refused_wrote : (b : List ℕ) {r : Refusal} (w : Written) → Err r ≡ outcome_of b w → w ≡ Err r
refused_wrote b (Ok m) e = absurd (read_not_refused e)
refused_wrote b (Err q) e = cc

record Wrote (b : List ℕ) (w : Written) (n m : ℕ) (full : Bool) : Type 0 where
  size : ℕ
  is : w ≡ Ok size
  nodes : n ≡ nodes_in b
  links : m ≡ size / 2
  kind : full ≡ in_order b full_kinds

read_wrote : (b : List ℕ) {n m : ℕ} {full : Bool} (w : Written) → read_as n m full ≡ outcome_of b w → Wrote b w n m full
read_wrote b {n} {m} {full} (Ok k) e =
    let s : ◌≡◌ {A = Summary} (record { nodes = n; links = m; full = full }) (record { nodes = nodes_in b; links = k / 2; full = in_order b full_kinds }) = cc in
    record { size = k; is = refl; nodes = ap (λ (x : Summary). x.nodes) s; links = ap (λ (x : Summary). x.links) s; kind = ap (λ (x : Summary). x.full) s }
read_wrote b (Err q) e = absurd (read_not_refused (sym e))

-- what a read that answers says: the image has no fault; N, M and the kind are its own; the pairs stand at the front, and the bytes behind stay
pub record WasRead (b before after : List ℕ) (n m : ℕ) (full : Bool) : Type 0 where
  pub fine : image_fault b ≡ Ok tt
  pub nodes : n ≡ nodes_in b
  pub links : m ≡ length (pairs_in b) / 2
  pub kind : full ≡ in_order b full_kinds
  pub front : take (length (pairs_in b)) after ≡ pairs_in b
  pub behind : drop (length (pairs_in b)) after ≡ drop (length (pairs_in b)) before

module _ (b before after : List ℕ) where
  pub read_refused : (r : Refusal) → Reads b before (Err r) after → written_of (image_fault b) (pairs_in b) (length before) ≡ Err r
  read_refused r c = refused_wrote b _ c.answers

  -- RULES 9.3: "Buffers and record stay as they were."
  pub read_untouched : (r : Refusal) → Reads b before (Err r) after → after ≡ before
  read_untouched r c = refused-untouched (pairs_in b) before after (image_fault b) r (record { answers = sym (read_refused r c); leaves = c.leaves })

  -- RULES 7.1: "Results are written at the front of a lent buffer, and the bytes behind stay."
  pub read_front : (n m : ℕ) (full : Bool) → Reads b before (read_as n m full) after → WasRead b before after n m full
  read_front n m full c =
      let w = read_wrote b _ c.answers in
      let size : w.size ≡ length (pairs_in b) = (written-size (pairs_in b) (length before) (image_fault b) w.size w.is).0 in
      let (front, behind) = written-front (pairs_in b) before after (image_fault b) w.size (record { answers = sym w.is; leaves = c.leaves }) in
      record {
        fine = not-refused (pairs_in b) (length before) (image_fault b) w.size w.is;
        nodes = w.nodes;
        links = w.links ∙ ap (λ (x : ℕ). x / 2) size;
        kind = w.kind;
        front = ap (λ (x : ℕ). take x after) (sym size) ∙ front;
        behind = ap (λ (x : ℕ). drop x after) (sym size) ∙ behind ∙ ap (λ (x : ℕ). drop x before) size;
      }
