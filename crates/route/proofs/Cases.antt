-- The checks of the route call, case by case.
use Rattle.std.specs.Prelude.{Result, Err, Ok}
use Rattle.refusal.specs.Verdicts.{Verdict}
use mathlib.Core.Path.{◌≡◌, refl, sym, ◌∙◌}
use mathlib.Core.Bool.{Bool, true, false}
use mathlib.Core.List.{List}
use mathlib.Core.Logic.{◌⊎◌, ⊎_elim}
use Prim.Native.Nat.{ℕ, ◌≤◌, ◌<◌}
use native.Mathlib.Omega.{arith}
use Rattle.finite.specs.Truth.{◌&◌, below}
use Rattle.finite.proofs.Truth.{no_tf, refute, both, and_l, and_r, lt-below, le_below}
use Rattle.nodes.specs.Limits.{max_nodes}
use Rattle.refusal.specs.declared.Refusal.{Refusal}
use Rattle.refusal.specs.declared.Refusal.TheVariants.{Short, Unknown}
use Rattle.refusal.proofs.Verdicts.{then-fine, then-fault}
use Rattle.fabric.specs.declared.Fabric.{Fabric}
use Rattle.fabric.specs.Fabric.{made_by}
use Rattle.fabric.proofs.Making.{fine-made}
use Rattle.fabric.proofs.Parts.{fabric-nodes}
use Rattle.format.specs.Contents.{nodes_in}
use Rattle.image.specs.Image.{cabling_in}
use Rattle.image.specs.Faults.{image_fault}
use Rattle.image.proofs.Images.{accepted-good}
use Rattle.image.proofs.Meaning.{image-not-short}
use Rattle.route.specs.Follow.{followed}
use Rattle.route.specs.Route.{ends_fault, route_fault, route_bytes}
use Rattle.route.proofs.Cabled.{follows}

module _ (b : List ℕ) (s t : ℕ) where
  pub ends-refused : image_fault b ≡ Ok tt → (nodes_in b ≤ s) ⊎ (nodes_in b ≤ t) → route_fault b s t ≡ Err (Unknown 0)
  unfolding ends_fault
  ends-refused e h =
      let out : below s (nodes_in b) & below t (nodes_in b) ≡ false =
      refute _ (λ y. ⊎_elim (λ k. no_tf (and_l _ _ y) (le_below k)) (λ k. no_tf (and_r _ _ y) (le_below k)) h) in
      then-fine _ e ∙ rw (out, ends_fault)

  pub not-refused : image_fault b ≡ Ok tt → s < nodes_in b → t < nodes_in b → route_fault b s t ≡ Ok tt
  unfolding ends_fault
  not-refused e k l = then-fine _ e ∙ rw (both (lt-below k) (lt-below l), ends_fault)

  -- 9 is none of these verdicts
  pub route-not-short : route_fault b s t ≡ Err Short → ⊥
  unfolding ends_fault
  route-not-short h = go (image_fault b) refl
    where
      ends : (x : Bool) → below s (nodes_in b) & below t (nodes_in b) ≡ x → ends_fault b s t ≡ Err Short → ⊥
      ends true p e = let q : (Ok tt) ≡ Err Short = rw (p, ends_fault) at e in let z : ◌≡◌ {A = ℕ} 0 1 = cc in omega arith
      ends false p e = let q : Err (Unknown 0) ≡ Err Short = rw (p, ends_fault) at e in let z : ◌≡◌ {A = ℕ} 0 1 = cc in omega arith

      go : (v : Verdict) → image_fault b ≡ v → ⊥
      go (Ok _) e = ends _ refl (sym (then-fine _ e) ∙ h)
      go (Err r) e = image-not-short b (e ∙ sym (then-fault _ e) ∙ h)

-- an image without a fault, and its fabric
pub record Opened (b : List ℕ) (f : Fabric) : Type 0 where
  pub fine : image_fault b ≡ Ok tt
  pub nodes : f.nodes ≡ nodes_in b
  pub few : f.nodes ≤ max_nodes
  pub leads : (s t : ℕ) → s < f.nodes → t < f.nodes → followed f s t ≡ route_bytes b s t

pub opened : (b : List ℕ) {m : Result Fabric Refusal} {f : Fabric} → m ≡ made_by (image_fault b) (cabling_in b) → m ≡ Ok f → Opened b f
opened b e h =
    let (fine, is) = fine-made _ e h in
    let nodes = fabric-nodes _ is in
    let g = accepted-good b fine in
    let few = g.few in
    record { fine = fine; nodes = nodes; few = omega arith; leads = λ s t k l. rw is (follows g s t (omega arith) (omega arith)) }
