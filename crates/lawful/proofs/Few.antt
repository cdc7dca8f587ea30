-- A shortest way meets no node twice: layer by layer one more node is within reach, so it has fewer hops than there are nodes.
use mathlib.Core.Path.{◌≡◌, refl}
use mathlib.Core.Bool.{Bool, true, false}
use Prim.Native.Nat.{ℕ, zero, suc, ◌<◌}
use native.Mathlib.Nat.{le_of_eq}
use native.Mathlib.Omega.{arith}
use lib.ListN.{length}
use Rattle.finite.specs.Sum.{count}
use Rattle.finite.specs.Sets.{has}
use Rattle.finite.proofs.Truth.{refute}
use Rattle.finite.proofs.Sum.{count-bound, count-member}
use Rattle.finite.proofs.Sets.{count-more}
use Rattle.graph.specs.Network.{Network}
use Rattle.lawful.specs.Turn.{Climbing}
use Rattle.lawful.specs.Entry.{layer, entry, free_after, route_of}
use Rattle.lawful.proofs.Run.{Hop, rise, fall, Run, run-any}
use Rattle.lawful.proofs.Layers.{side, layer-inside, layer-run, layer-start, run-layer, layer-grow}
use Rattle.lawful.proofs.Climb.{climbing-run}
use Rattle.lawful.proofs.Routes.{hops_of, hops-self, hops-run, hops-fewest, entry-nearer, climbing-route}

module _ (n : ℕ) (edge : ℕ → ℕ → Bool) (label : ℕ → ℕ) (t : ℕ) (inside : (a b : ℕ) → edge a b ≡ true → b < n) (low : t < n) where
  -- the nodes from which a message of the class is within k hops of t
  abbrev near : ℕ → Bool → ℕ → Bool
  near k c v = has (side c (layer n edge label t k)) v

  -- what is near after a hop is near before it
  near_before : {c d : Bool} {v u : ℕ} → Hop edge label c v d u → (k x : ℕ) → near k d x ≡ true → near k c x ≡ true
  near_before (rise h) k x m = m
  near_before (fall {c = c} h) k x m =
      let w = layer-run n edge label t k false x m in run-layer n edge label t inside {c = c} k (run-any w.run) w.near (layer-inside n edge label t k false x m)

  more-near : (k : ℕ) {c : Bool} {v j : ℕ} → v < n → Run edge label c v t j → hops_of n edge label t c v ≡ k → k < count n (near k c)
  more-near zero {c} l r e = count-member n (near 0 c) t low (layer-start n edge label t low 0 c)
  more-near (suc k) {c} {v} l r e =
      let away : v ≡ t → ⊥ = λ p. let z : hops_of n edge label t c v ≡ 0 = rw p (hops-self n edge label t c) in omega arith in
      let s = entry-nearer n edge label t inside low away r in
      let less = s.less in
      let rest = more-near k s.low s.run (omega arith) in
      let kept = count-more n (near k (free_after edge label c v (entry n edge label t c v))) (near (suc k) c) v
      (λ x b m. layer-grow n edge label t k (suc k) c x (omega arith) (near_before s.first k x m)) l
      (run-layer n edge label t inside (suc k) (hops-run n edge label t inside low r) (le_of_eq e) l)
      (refute _ (λ m.
      let w = layer-run n edge label t k c v (near_before s.first k v m) in
      let b = hops-fewest n edge label t inside low c v _ w.run in
      let q = w.near in
      omega arith)) in
      omega arith

  pub few-hops : {c : Bool} {v j : ℕ} → v < n → Run edge label c v t j → hops_of n edge label t c v < n
  few-hops {c} {v} l r = let a = more-near _ l r refl in let b = count-bound n (near (hops_of n edge label t c v) c) in omega arith

-- so a route in a climbing labelling has fewer hops than there are nodes
pub few-on-route : (n : ℕ) (edge : ℕ → ℕ → Bool) (label : ℕ → ℕ) → Network n edge → Climbing n edge label → (v t : ℕ) → v < n → t < n
    → length (route_of n edge label v t) < n
few-on-route n edge label net climbing v t a b =
    let e = (climbing-route n edge label net climbing v t a b).count in
    let h = few-hops n edge label t net.inside b a (climbing-run n edge label climbing net.undirected v t a b).1 in
    omega arith
