-- Paths and runs: a lawful path is a run, rises and then falls; and each run gives a path that is not longer. So the shortest have one length.
use mathlib.Core.Path.{◌≡◌, refl}
use mathlib.Core.Bool.{Bool, true, false}
use mathlib.Core.List.{List, [], ◌∷◌}
use Prim.Native.Nat.{ℕ, zero, suc, ◌≤◌, ◌<◌, zero-le, suc-le-suc}
use native.Mathlib.Nat.{not-suc-le-zero, le_of_suc-le-suc}
use native.Mathlib.Omega.{arith}
use lib.ListN.{length, get_or}
use Rattle.finite.specs.Truth.{◌&◌}
use Rattle.finite.proofs.Truth.{no_tf, bcase, iff, refute, both, and_l, and_r, non-true, non-false, true-non, same-eq, below-lt, lt-below}
use Rattle.lawful.specs.Turn.{rises, falls, prohibited, Distinct}
use Rattle.lawful.specs.Path.{onward, is_path, permitted, is_lawful, all_fall, LawfulTo, FallsTo, Shortest}
use Rattle.lawful.proofs.Run.{Hop, rise, fall, Run, done, hop, Fewest, rises-edge, rises-lt, falls-edge, falls-lt, rise_or_fall}

-- the paths that a message of the class may follow: lawful ones while it is free, falls only once it is falling
abbrev pub WayTo : (ℕ → ℕ → Bool) → (ℕ → ℕ) → Bool → ℕ → ℕ → List ℕ → Type 0
WayTo edge label true v t = LawfulTo edge label v t
WayTo edge label false v t = FallsTo edge label v t

-- a way's first hop, and the way on from there
pub record Onward (edge : ℕ → ℕ → Bool) (label : ℕ → ℕ) (c : Bool) (v u t : ℕ) (l : List ℕ) : Type 0 where
  pub next : Bool
  pub first : Hop edge label c v next u
  pub rest : WayTo edge label next u t l

-- every node of a path is one of the n
pub path_inside : {n : ℕ} (edge : ℕ → ℕ → Bool) → ((a b : ℕ) → edge a b ≡ true → b < n) → (v : ℕ) (l : List ℕ) → is_path edge v l ≡ true
    → (i : ℕ) → i < length l → get_or l i 0 < n
path_inside edge inside v [] p i k = absurd (not-suc-le-zero k)
path_inside edge inside v (u ∷ l) p zero k = inside v u (and_l _ _ p)
path_inside edge inside v (u ∷ l) p (suc i) k = path_inside edge inside u l (and_r _ _ (and_r _ _ p)) i (le_of_suc-le-suc k)

-- a way of at most k hops
pub record WayWithin (edge : ℕ → ℕ → Bool) (label : ℕ → ℕ) (c : Bool) (v t k : ℕ) : Type 0 where
  pub list : List ℕ
  pub way : WayTo edge label c v t list
  pub short : length list ≤ k

module _ (edge : ℕ → ℕ → Bool) (label : ℕ → ℕ) where
  -- a lawful path in classes, RULES 4.5: "no fall is directly followed by a rise"
  pub prohibited_turn : (b a c : ℕ) → edge b a ≡ true → edge a c ≡ true → prohibited label b a c ≡ falls edge label b a & rises edge label a c
  unfolding prohibited falls rises
  prohibited_turn b a c e f =
      iff _ _ (λ t. both (both e (and_l _ _ t)) (both f (and_r _ _ t))) (λ t. both (and_r _ _ (and_l _ _ t)) (and_r _ _ (and_r _ _ t)))

  pub way-none : (c : Bool) (v : ℕ) → WayTo edge label c v v []
  way-none true v = record { path = refl; lawful = refl; arrives = refl }
  way-none false v = record { path = refl; falling = refl; arrives = refl }

  turn_risen : (v u : ℕ) (l : List ℕ) → label v < label u → permitted label v u l ≡ true
  unfolding prohibited
  turn_risen v u [] h = refl
  turn_risen v u (w ∷ l) h = true-non (refute _ (λ t. let b = below-lt _ _ (and_l _ _ t) in omega arith))

  turn_falling : (v u : ℕ) (l : List ℕ) → all_fall edge label u l ≡ true → permitted label v u l ≡ true
  unfolding prohibited
  turn_falling v u [] h = refl
  turn_falling v u (w ∷ l) h =
      let f = falls-lt edge label u w (and_l _ _ h) in true-non (refute _ (λ t. let b = below-lt _ _ (and_r _ _ t) in omega arith))

  falling-lawful : (v : ℕ) (l : List ℕ) → all_fall edge label v l ≡ true → is_lawful label v l ≡ true
  falling-lawful v [] h = refl
  falling-lawful v (u ∷ l) h = both (turn_falling v u l (and_r _ _ h)) (falling-lawful u l (and_r _ _ h))

  -- a path of falls only is lawful
  pub way-any : (c : Bool) (v t : ℕ) (l : List ℕ) → WayTo edge label false v t l → WayTo edge label c v t l
  way-any true v t l h = record { path = h.path; lawful = falling-lawful v l h.falling; arrives = h.arrives }
  way-any false v t l h = h

  hop-way : {c d : Bool} {v u : ℕ} (t : ℕ) (l : List ℕ) → Hop edge label c v d u → WayTo edge label d u t l → onward v l ≡ true
      → WayTo edge label c v t (u ∷ l)
  hop-way t l (rise {v = v} {u = u} h) w o = record {
    path = both (rises-edge edge label v u h) (both o w.path);
    lawful = both (turn_risen v u l (rises-lt edge label v u h)) w.lawful;
    arrives = w.arrives;
  }
  hop-way t l (fall {c = c} {v = v} {u = u} h) w o = way-any c v t (u ∷ l) (record {
    path = both (falls-edge edge label v u h) (both o w.path);
    falling = both h w.falling;
    arrives = w.arrives;
  })

  -- a step straight back is a rise and then a fall, and may be cut out
  cut-back : {c d e : Bool} {v u : ℕ} (t : ℕ) (l : List ℕ) → Hop edge label c v d u → Hop edge label d u e v → WayTo edge label e v t l
      → WayTo edge label c v t l
  cut-back t l (rise h) (rise g) w = let a = rises-lt edge label _ _ h in let b = rises-lt edge label _ _ g in absurd (omega arith)
  cut-back t l (rise h) (fall g) w = way-any true _ t l w
  cut-back t l (fall h) (fall g) w = let a = falls-lt edge label _ _ h in let b = falls-lt edge label _ _ g in absurd (omega arith)

module _ (edge : ℕ → ℕ → Bool) (label : ℕ → ℕ) (distinct : Distinct edge label) where
  -- no fall is followed by a rise: that turn is prohibited
  stays-falling : (v u : ℕ) (l : List ℕ) → label u < label v → is_path edge u l ≡ true → is_lawful label v (u ∷ l) ≡ true → all_fall edge label u l ≡ true
  unfolding prohibited
  stays-falling v u [] d p h = refl
  stays-falling v u (w ∷ l) d p h =
      let down = rise_or_fall edge label distinct u w (and_l _ _ p)
      (λ up. no_tf (both (lt-below d) (lt-below (rises-lt edge label u w up))) (non-true _ (and_l _ _ h))) (λ f. f) in
      both down (stays-falling u w l (falls-lt edge label u w down) (and_r _ _ (and_r _ _ p)) (and_r _ _ h))

  -- a way begins with a hop, and goes on from there in the class that this leaves
  pub way-first : (c : Bool) (v u t : ℕ) (l : List ℕ) → WayTo edge label c v t (u ∷ l) → Onward edge label c v u t l
  way-first true v u t l h =
      let on = and_r _ _ (and_r _ _ h.path) in
      rise_or_fall edge label distinct v u (and_l _ _ h.path)
      (λ up. record { next = true; first = rise up; rest = record { path = on; lawful = and_r _ _ h.lawful; arrives = h.arrives } })
      (λ down. record { next = false; first = fall down; rest = record { path = on; falling = stays-falling v u l (falls-lt edge label v u down) on h.lawful; arrives = h.arrives } })
  way-first false v u t l h = record {
    next = false;
    first = fall (and_l _ _ h.falling);
    rest = record { path = and_r _ _ (and_r _ _ h.path); falling = and_r _ _ h.falling; arrives = h.arrives };
  }

  -- a lawful path is a run of rises, then falls; a path of falls only is a run of falls
  pub way-run : (c : Bool) (v t : ℕ) (l : List ℕ) → WayTo edge label c v t l → Run edge label c v t (length l)
  way-run c v t [] h = arrived c h
    where
      arrived : (c : Bool) → WayTo edge label c v t [] → Run edge label c v t 0
      arrived true h = rw (← h.arrives) done
      arrived false h = rw (← h.arrives) done
  way-run c v t (u ∷ l) h = let o = way-first c v u t l h in hop o.first (way-run o.next u t l o.rest)

  -- ---- from runs to paths

  turn_back : {c d : Bool} {v u : ℕ} (t : ℕ) (l : List ℕ) → Hop edge label c v d u → WayTo edge label d u t l → onward v l ≡ false
      → WayWithin edge label c v t (length l)
  turn_back t [] h w o = no_tf refl o
  turn_back {d = d} {v = v} {u = u} t (x ∷ l) h w o =
      let e = same-eq v x (non-false _ o) in
      let f = way-first d u x t l w in
      record { list = l; way = cut-back edge label {e = f.next} t l h (rw e f.first) (rw e f.rest); short = omega arith }

  -- each run gives a way that is not longer
  pub run-way : {c : Bool} {v t k : ℕ} → Run edge label c v t k → WayWithin edge label c v t k
  run-way (done {c = c} {v = v}) = record { list = []; way = way-none edge label c v; short = zero-le }
  run-way (hop {v = v} {u = u} {t = t} h r) =
      let w = run-way r in
      bcase (onward v w.list) (λ o. record { list = u ∷ w.list; way = hop-way edge label t w.list h w.way o; short = suc-le-suc w.short })
      (λ o. let b = turn_back t w.list h w.way o in record { list = b.list; way = b.way; short = omega arith })

  -- ---- shortest runs and shortest paths

  -- a hop and a way on from there, no longer than the fewest hops of a run, are a shortest way: in particular it has no step straight back
  pub hop-shortest : {c d : Bool} {v u : ℕ} (t : ℕ) (l : List ℕ) {k : ℕ} → Hop edge label c v d u → WayTo edge label d u t l → length l ≤ k
      → Fewest edge label c v t (suc k) → Shortest (WayTo edge label c v t) (u ∷ l)
  hop-shortest {c} {v = v} t l h w s f = record {
    is = hop-way edge label t l h w (bcase (onward v l) (λ o. o) (λ o.
        let b = turn_back t l h w o in let j = f _ (way-run c v t b.list b.way) in absurd (omega arith)));
    least = λ m a. let b = f _ (way-run c v t m a) in omega arith;
  }
