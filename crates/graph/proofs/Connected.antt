-- What the tests decide: `joined`, `connected` and `cut` say what the walks of specs/Network.antt say.
use mathlib.Core.Path.{◌≡◌, sym, ◌∙◌, ap}
use mathlib.Core.Bool.{Bool, true, false}
use mathlib.Core.Logic.{◌↔◌}
use Prim.Native.Nat.{ℕ, ◌<◌}
use native.Mathlib.Omega.{arith}
use lib.Dec.{eqb}
use borrow.Author.Tests.{eq-eqb, eqb-true}
use Rattle.finite.specs.Truth.{◌&◌, non, same}
use Rattle.finite.specs.Search.{least}
use Rattle.finite.specs.Sets.{has, set_of, without}
use Rattle.finite.proofs.Truth.{no_tf, bcase, iff, refute, both, and_l, and_r, or_l, or_r, or_case, non-true, true-non, non-false, same-eq, same_refl}
use Rattle.finite.proofs.Search.{every_all, all_every, least-found, least-fact, least_cong}
use Rattle.finite.proofs.Sets.{has_0, has-set_of, set_of-lt, set-empty, without_in}
use Rattle.graph.specs.Network.{Network, Members, Walk, among, Connected, CutNode}
use Rattle.graph.specs.Reach.{covers, joined, connected, cut}
use Rattle.graph.proofs.Walk.{walk-append, walk_reverse, among-network}
use Rattle.graph.proofs.Reach.{reach-from, reach-walk, reach_cong}

pub covers-member : (n : ℕ) (R : ℕ → Bool) (s v : ℕ) → covers n R s ≡ true → v < n → R v ≡ true → has s v ≡ true
unfolding covers
covers-member n R s v h l m = or_case _ _ (all_every n _ h v l) (λ t. no_tf m (non-true _ t)) (λ t. t)

pub member-covers : (n : ℕ) (R : ℕ → Bool) (s : ℕ) → ((v : ℕ) → v < n → R v ≡ true → has s v ≡ true) → covers n R s ≡ true
unfolding covers
member-covers n R s h = every_all n _ (λ v l. bcase (R v) (λ t. or_r _ (h v l t)) (λ t. or_l _ (true-non t)))

-- nothing of R is left outside s
pub covers-none : (n : ℕ) (R : ℕ → Bool) (s : ℕ) → eqb (set_of n (λ v. R v & non (has s v))) 0 ≡ covers n R s
covers-none n R s =
    iff _ _
    (λ t.
    member-covers n R s (λ v l m.
    bcase (has s v) (λ h. h)
    (λ h. no_tf (both m (true-non h)) (sym (has-set_of n _ v l) ∙ ap (λ (w : ℕ). has w v) (eqb-true _ _ t) ∙ has_0 v))))
    (λ t.
    eq-eqb _ _ (set-empty n _ (set_of-lt n _) (λ v l.
    has-set_of n _ v l ∙ refute _ (λ h. no_tf (covers-member n R s v t l (and_l _ _ h)) (non-true _ (and_r _ _ h))))))

pub covers_cong : (n : ℕ) (R Q : ℕ → Bool) (s : ℕ) → ((v : ℕ) → v < n → R v ≡ Q v) → covers n R s ≡ covers n Q s
covers_cong n R Q s h =
    iff _ _ (λ t. member-covers n Q s (λ v l m. covers-member n R s v t l (h v l ∙ m)))
    (λ t. member-covers n R s (λ v l m. covers-member n Q s v t l (sym (h v l) ∙ m)))

pub joined_cong : (n : ℕ) (edge link : ℕ → ℕ → Bool) → ((a b : ℕ) → a < n → b < n → edge a b ≡ link a b)
    → (R Q : ℕ → Bool) → ((v : ℕ) → v < n → R v ≡ Q v) → joined n edge R ≡ joined n link Q
unfolding joined
joined_cong n edge link agree R Q h =
    covers_cong n R Q _ h
    ∙ ap (covers n Q) (reach_cong n edge link agree (same (least n R)) (same (least n Q)) (λ v l. ap (λ (x : ℕ). same x v) (least_cong n R Q h)))

module _ (n : ℕ) (edge : ℕ → ℕ → Bool) (net : Network n edge) (R : ℕ → Bool) (m : Members n R) where
  -- where R is joined, walks lead from each member to each
  pub joined-walk : joined n edge R ≡ true → (a b : ℕ) → R a ≡ true → R b ≡ true → Walk edge a b
  unfolding joined
  joined-walk h a b x y = walk-append (walk_reverse net.undirected (to a x)) (to b y)
    where
      to : (v : ℕ) → R v ≡ true → Walk edge (least n R) v
      to v t = let f = reach-from n edge (same (least n R)) v (covers-member n R _ v h (m v t) t) in rw (same-eq _ _ f.fact) f.walk

  pub walk-joined : ((a b : ℕ) → R a ≡ true → R b ≡ true → Walk edge a b) → joined n edge R ≡ true
  unfolding joined
  walk-joined h =
      member-covers n R _ (λ v l t.
      let k = least-found n R v t in
      reach-walk n edge net.inside (same (least n R)) (omega arith) (same_refl _) (h _ v (least-fact n R (omega arith)) t))

pub members-without : {n : ℕ} (R : ℕ → Bool) → Members n R → (v : ℕ) → Members n (without R v)
members-without R m v u h = m u (without_in R v u h)

module _ (n : ℕ) (edge : ℕ → ℕ → Bool) (net : Network n edge) where
  -- the test of connectedness means that any two members are joined by a walk inside
  pub connected-iff : (R : ℕ → Bool) → Members n R → (connected n edge R ≡ true) ↔ Connected edge R
  unfolding connected
  connected-iff R m = (
    joined-walk n (among R edge) (among-network R net) R m,
    walk-joined n (among R edge) (among-network R net) R m,
  )

  -- the cut test means that removal leaves a graph that isn't connected
  pub cut-iff : (R : ℕ → Bool) → Members n R → (v : ℕ) → (cut n edge R v ≡ true) ↔ CutNode edge R v
  unfolding cut
  cut-iff R m v =
      let i = connected-iff (without R v) (members-without R m v) in (
        λ h k. no_tf (i.1 k) (non-true _ h),
        λ h. true-non (refute _ (λ t. h (i.0 t))),
      )

  pub uncut-connected : (R : ℕ → Bool) → Members n R → (v : ℕ) → cut n edge R v ≡ false → Connected edge (without R v)
  unfolding cut
  uncut-connected R m v h = (connected-iff (without R v) (members-without R m v)).0 (non-false _ h)
