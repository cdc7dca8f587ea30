-- A start that is not refused is one that demand 3 speaks of: a climbing fabric with the tables of its entries, and a list of messages between its nodes.
use Rattle.std.specs.Prelude.{Ok}
use mathlib.Core.Path.{◌≡◌, ap, subst}
use mathlib.Core.List.{List}
use Prim.Native.Nat.{ℕ, ◌+◌, ◌*◌, ◌/◌, ◌%◌, ◌≤◌, ◌<◌}
use native.Mathlib.Omega.{arith}
use lib.Dec.{leb, eqb}
use lib.ListN.{get_or}
use borrow.Author.Tests.{leb-true, leb-false, eqb-true, eqb-false}
use Rattle.finite.proofs.Truth.{bcase}
use Rattle.refusal.proofs.Verdicts.{and_then_fine}
use Rattle.cabling.specs.Cabling.{Cabling}
use Rattle.fabric.specs.Fabric.{fabric_of}
use Rattle.fabric.proofs.Arrays.{TabledFor, good-tabled}
use Rattle.format.specs.Contents.{nodes_in}
use Rattle.image.specs.Image.{cabling_in}
use Rattle.image.specs.Faults.{image_fault}
use Rattle.image.proofs.Images.{accepted-good}
use Rattle.messages.specs.declared.Record.{Record}
use Rattle.messages.specs.Runs.{Listed, Reached, fresh}
use Rattle.start.specs.declared.Started.{Started}
use Rattle.start.specs.Start.{list_fault, start_fault, fresh_of, record_after, start_of}
use Rattle.start.specs.Verdicts.{OfList, fine}
use Rattle.start.proofs.Cases.{start-by}
use Rattle.start.proofs.Meaning.{list_means}

-- the records that moves lead to from a start in the fabric of a cabling
abbrev pub RunFor : Cabling → List ℕ → Record → Type 0
RunFor c = Reached c.nodes (fabric_of c).labels (fabric_of c).free (fabric_of c).falling

-- a list without a fault is one of messages between nodes
pub fine-listed : (n : ℕ) (list : List ℕ) → list_fault n list ≡ Ok tt → Listed n list
fine-listed n list h = listed ((list_means n list (Ok tt)).0 h)
  where
    odd : (i : ℕ) → (i % 2 ≡ 0 → ⊥) → 2 * (i / 2) + 1 ≡ i
    odd i z = bcase (leb 1 (i % 2)) (λ t. let q : 1 ≤ i % 2 = leb-true _ _ t in omega arith) (λ t. let q : i % 2 < 1 = leb-false _ _ t in absurd (z (omega arith)))

    listed : OfList n list (Ok tt) → Listed n list
    listed (fine e s both) = record {
      short = s;
      nodes = λ i l.
          bcase (eqb (i % 2) 0)
          (λ t. let z : i % 2 ≡ 0 = eqb-true _ _ t in subst (λ (j : ℕ). get_or list j 0 < n) {x = 2 * (i / 2)} (omega arith) (both (i / 2) (omega arith)).0)
          (λ t. let z : i % 2 ≡ 0 → ⊥ = eqb-false _ _ t in subst (λ (j : ℕ). get_or list j 0 < n) {x = 2 * (i / 2) + 1} (odd i z) (both (i / 2) (omega arith)).1);
    }

-- a fresh record begins a run
pub fresh_reached : (b list : List ℕ) → RunFor (cabling_in b) list (fresh_of b list)
unfolding fresh_of fabric_of
fresh_reached b list = fresh

-- so does the record of a start that is not refused
module _ (b list : List ℕ) (fine : start_fault b list ≡ Ok tt) where
  accepted : (image_fault b ≡ Ok tt) × (list_fault (nodes_in b) list ≡ Ok tt)
  accepted = and_then_fine _ _ fine

  pub start_reached : (old : Record) → RunFor (cabling_in b) list (start_of old b list).«record»
  unfolding record_after
  start_reached old = subst (RunFor (cabling_in b) list) (ap (λ (s : Started). s.«record») (start-by old b list fine)) (fresh_reached b list)

  pub start-fabric : TabledFor (cabling_in b)
  start-fabric = good-tabled (accepted-good b accepted.0)

  pub start-listed : Listed (nodes_in b) list
  start-listed = fine-listed (nodes_in b) list accepted.1
