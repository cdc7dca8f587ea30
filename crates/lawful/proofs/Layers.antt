-- The layers hold exactly the nodes with a run of at most so many hops, in either class; they grow, and come to rest.
use mathlib.Core.Path.{◌≡◌, refl, sym, ◌∙◌, ap}
use mathlib.Core.Bool.{Bool, true, false}
use mathlib.Core.Logic.{◌⊎◌, inl, inr, ⊎_elim}
use Prim.Native.Nat.{ℕ, zero, suc, ◌+◌, ◌^◌, ◌≤◌, ◌<◌, zero-le}
use native.Mathlib.Nat.{le_step, not-suc-le-zero, le_of_suc-le-suc, le_dest, add-suc, add-zero}
use native.Mathlib.Omega.{arith}
use lib.Dec.{eqb}
use borrow.Author.Tests.{eqb-true, eqb-false}
use Rattle.finite.specs.Truth.{◌&◌, ◌or◌, same}
use Rattle.finite.specs.Sum.{count}
use Rattle.finite.specs.Search.{any}
use Rattle.finite.specs.Sets.{has}
use Rattle.finite.proofs.Truth.{no_tf, bcase, both, and_l, and_r, or_l, or_r, or_case, same-eq, same_refl}
use Rattle.finite.proofs.Sum.{count-le, count-bound, count-member}
use Rattle.finite.proofs.Search.{some-any, any_some}
use Rattle.finite.proofs.Sets.{has-set_of, set_of-lt, has-lt}
use Rattle.lawful.specs.Turn.{rises}
use Rattle.lawful.specs.Entry.{Layer, leads, joining, layer}
use Rattle.finite.proofs.Sets.{set_more}
use Rattle.lawful.proofs.Run.{Hop, rise, fall, Run, done, hop, hop-edge}

-- the set of a layer that belongs to the class
abbrev pub side : Bool → Layer → ℕ
side true s = s.free
side false s = s.fall

pub layer_ext : {s w : Layer} → s.free ≡ w.free → s.fall ≡ w.fall → s ≡ w
layer_ext p q = λ i. record { free = p i; fall = q i }

-- a hop in the class from v to u that lands in the layer
pub record Lead (edge : ℕ → ℕ → Bool) (label : ℕ → ℕ) (s : Layer) (c : Bool) (v u : ℕ) : Type 0 where
  pub next : Bool
  pub first : Hop edge label c v next u
  pub lands : has (side next s) u ≡ true

-- a run in the class from v to t of at most k hops
pub record Within (edge : ℕ → ℕ → Bool) (label : ℕ → ℕ) (c : Bool) (v t k : ℕ) : Type 0 where
  pub hops : ℕ
  pub near : hops ≤ k
  pub run : Run edge label c v t hops

pub leads-hop : (edge : ℕ → ℕ → Bool) (label : ℕ → ℕ) (s : Layer) (c : Bool) (v u : ℕ) → leads edge label s c v u ≡ true → Lead edge label s c v u
unfolding leads
leads-hop edge label s c v u h =
    or_case _ _ h (λ t. free c (and_l _ _ t) (and_r _ _ t)) (λ t. record { next = false; first = fall (and_l _ _ t); lands = and_r _ _ t })
  where
    free : (b : Bool) → b ≡ true → rises edge label v u & has s.free u ≡ true → Lead edge label s b v u
    free true e t = record { next = true; first = rise (and_l _ _ t); lands = and_r _ _ t }
    free false e t = no_tf e refl

pub hop-leads : {edge : ℕ → ℕ → Bool} {label : ℕ → ℕ} (s : Layer) {c d : Bool} {v u : ℕ} → Hop edge label c v d u → has (side d s) u ≡ true
    → leads edge label s c v u ≡ true
unfolding leads
hop-leads s (rise h) m = or_l _ (both refl (both h m))
hop-leads s (fall h) m = or_r _ (both h m)

module _ (n : ℕ) (edge : ℕ → ℕ → Bool) (label : ℕ → ℕ) (t : ℕ) where
  abbrev at : ℕ → Layer
  at k = layer n edge label t k

  abbrev member : ℕ → Bool → ℕ → Bool
  member k c v = has (side c (at k)) v

  pub layer-lt : (k : ℕ) (c : Bool) → side c (at k) < 2 ^ n
  unfolding layer joining
  layer-lt zero true = set_of-lt n _
  layer-lt zero false = set_of-lt n _
  layer-lt (suc k) true = set_of-lt n _
  layer-lt (suc k) false = set_of-lt n _

  pub layer-inside : (k : ℕ) (c : Bool) (v : ℕ) → member k c v ≡ true → v < n
  layer-inside k c v h = has-lt n _ v (layer-lt k c) h

  -- the nodes of the first layer
  pub layer-none : (c : Bool) (v : ℕ) → v < n → member 0 c v ≡ same t v
  unfolding layer
  layer-none true v l = has-set_of n _ v l
  layer-none false v l = has-set_of n _ v l

  -- those of the next one: the nodes of the last, and those with a hop into it
  pub layer-more : (k : ℕ) (c : Bool) (v : ℕ) → v < n → member (suc k) c v ≡ member k c v or any n (leads edge label (at k) c v)
  unfolding layer joining
  layer-more k true v l = has-set_of n _ v l
  layer-more k false v l = has-set_of n _ v l

  -- ---- what a layer holds

  pub layer-run : (k : ℕ) (c : Bool) (v : ℕ) → member k c v ≡ true → Within edge label c v t k
  layer-run zero c v h = record {
    hops = 0;
    near = zero-le;
    run = rw (same-eq t v (sym (layer-none c v (layer-inside 0 c v h)) ∙ h)) done;
  }
  layer-run (suc k) c v h =
      or_case _ _ (sym (layer-more k c v (layer-inside (suc k) c v h)) ∙ h)
      (λ m. let w = layer-run k c v m in record { hops = w.hops; near = le_step w.near; run = w.run })
      (λ m.
      let s = any_some n _ m in
      let f = leads-hop edge label (at k) c v s.at s.fact in
      let w = layer-run k f.next s.at f.lands in
      record { hops = suc w.hops; near = let l = w.near in omega arith; run = hop f.first w.run })

  -- ---- layers grow

  layer-next : (k : ℕ) (c : Bool) (v : ℕ) → member k c v ≡ true → member (suc k) c v ≡ true
  layer-next k c v h = layer-more k c v (layer-inside k c v h) ∙ or_l _ h

  pub layer-grow : (j k : ℕ) (c : Bool) (v : ℕ) → j ≤ k → member j c v ≡ true → member k c v ≡ true
  layer-grow j k c v l h = let (d, e) = le_dest l in rw (sym e) (up d)
    where
      up : (d : ℕ) → member (j + d) c v ≡ true
      up zero = rw add-zero h
      up (suc d) = rw add-suc (layer-next (j + d) c v (up d))

  pub layer-start : t < n → (k : ℕ) (c : Bool) → member k c t ≡ true
  layer-start l k c = layer-grow 0 k c t zero-le (layer-none c t l ∙ same_refl t)

  module _ (inside : (a b : ℕ) → edge a b ≡ true → b < n) where
    pub run-layer : {c : Bool} {v j : ℕ} (k : ℕ) → Run edge label c v t j → j ≤ k → v < n → member k c v ≡ true
    run-layer k (done {c = c}) l b = layer-start b k c
    run-layer zero (hop h r) l b = absurd (not-suc-le-zero l)
    run-layer (suc k) (hop h r) l b =
        let low = inside _ _ (hop-edge h) in
        layer-more k _ _ b ∙ or_r _ (some-any n _ _ low (hop-leads (at k) h (run-layer k r (le_of_suc-le-suc l) low)))

  -- ---- layers come to rest

  layer-step : (j k : ℕ) → at j ≡ at k → at (suc j) ≡ at (suc k)
  unfolding layer
  layer-step j k e =
      ap
      (λ (s : Layer). let r : Layer = record { free = joining n edge label s true s.free; fall = joining n edge label s false s.fall } in r)
      e

  -- a layer that equals the next one equals all that follow
  pub layer-still : (k : ℕ) → at (suc k) ≡ at k → (j : ℕ) → k ≤ j → at j ≡ at k
  layer-still k e j l = let (d, p) = le_dest l in rw (sym p) (on d)
    where
      on : (d : ℕ) → at (k + d) ≡ at k
      on zero = rw add-zero
      on (suc d) = rw add-suc (layer-step (k + d) k (on d) ∙ e)

  -- the members of both sets of the layer
  abbrev size : ℕ → ℕ
  size k = count n (member k true) + count n (member k false)

  layer-moves : (k : ℕ) → (at (suc k) ≡ at k) ⊎ (size k < size (suc k))
  layer-moves k =
      bcase (eqb (side true (at (suc k))) (side true (at k)))
      (λ e.
      bcase (eqb (side false (at (suc k))) (side false (at k)))
      (λ f. inl (layer_ext (eqb-true _ _ e) (eqb-true _ _ f)))
      (λ f. let b = same_or_more true in let m = more false (eqb-false _ _ f) in inr (omega arith)))
      (λ e. let b = same_or_more false in let m = more true (eqb-false _ _ e) in inr (omega arith))
    where
      same_or_more : (c : Bool) → count n (member k c) ≤ count n (member (suc k) c)
      same_or_more c = count-le n _ _ (λ v l. layer-next k c v)

      more : (c : Bool) → (side c (at (suc k)) ≡ side c (at k) → ⊥) → count n (member k c) < count n (member (suc k) c)
      more c d = set_more n _ _ (layer-lt k c) (layer-lt (suc k) c) (λ v l. layer-next k c v) d

  -- each round that changes a set adds a member to one of two sets of at most n
  layer-full : t < n → (k : ℕ) → (at (suc k) ≡ at k) ⊎ (suc (suc k) ≤ size k)
  layer-full l zero =
      let x = count-member n (member 0 true) t l (layer-start l 0 true) in
      let y = count-member n (member 0 false) t l (layer-start l 0 false) in
      inr (omega arith)
  layer-full l (suc k) =
      ⊎_elim (λ e. inl (layer-step (suc k) k e))
      (λ m. ⊎_elim (λ e. inl (layer-step (suc k) k e)) (λ f. inr (omega arith)) (layer-full l k)) (layer-moves k)

  -- so after 2 n - 2 rounds, and then for good, neither changes
  pub layer-rest : t < n → (k : ℕ) → n + n ≤ suc (suc k) → at (suc k) ≡ at k
  layer-rest l k b =
      ⊎_elim (λ e. e)
      (λ m.
      ⊎_elim (λ e. e)
      (λ f.
      let x = count-bound n (member (suc k) true) in
      let y = count-bound n (member (suc k) false) in
      absurd (omega arith))
      (layer-full l k))
      (layer-moves k)
