-- On the labels and tables of a network hop answers the entry and the class after it; whoever asks it at each node walks the route. Route and the drain
-- machine cite these.
use mathlib.Core.Path.{◌≡◌, refl, sym, ◌∙◌, ap}
use mathlib.Core.Bool.{Bool, true, false}
use mathlib.Core.List.{List, ◌∷◌}
use Prim.Native.Nat.{ℕ, zero, suc, ◌+◌, ◌*◌, ◌≤◌, ◌<◌, min}
use native.Mathlib.Nat.{mul-le-mul, le_refl}
use native.Mathlib.Omega.{arith}
use lib.ListN.{length, get_or, take, length-take}
use lib.Seq.{get_or-take, get_or-drop}
use Rattle.finite.specs.Truth.{same}
use Rattle.finite.proofs.Truth.{bcase, same-eq, same-ne, eq-same, ne_same}
use Rattle.lawful.specs.Turn.{label_in}
use Rattle.lawful.specs.Entry.{entry, free_after, follow, route_of}
use Rattle.lawful.proofs.Run.{Hop, rise, fall, Run, rises-lt, falls-lt}
use Rattle.lawful.proofs.Paths.{WayTo}
use Rattle.lawful.proofs.Climb.{climbing-run}
use Rattle.lawful.proofs.Entries.{entry-self, entry-none-iff}
use Rattle.lawful.proofs.Routes.{Nearer, entry-nearer, follow-here, follow-there}
use Rattle.nodes.specs.Limits.{max_nodes}
use Rattle.hops.specs.Row.{row_known, table_in, row_in}
use Rattle.hops.specs.Hop.{HopAnswer, Next, NoWay, class_after, onward_of, hop_in, hop_within, walk_by}
use Rattle.hops.specs.Tabled.{class_of, Tabled}
use Rattle.hops.proofs.Lookup.{faultless_known, row-known, row-length, free-table, falling-table}
use Rattle.hops.proofs.Cases.{class-here, class-fall, class-free, onward-none, onward-next, hop-known, walk_here, walk-there}

-- a class is 0 or 1, and 0 where it is free
pub class-le : (class : Bool) → class_of class ≤ 1
class-le true = omega arith
class-le false = omega arith

pub class-is-free : (class : Bool) → same (class_of class) 0 ≡ class
class-is-free true = eq-same refl
class-is-free false = ne_same (λ e. omega arith)

module _ {n : ℕ} {edge : ℕ → ℕ → Bool} {labels free falling : List ℕ} (tabled : Tabled n edge labels free falling) where
  abbrev label : ℕ → ℕ
  label = label_in labels

  -- the fronts of the arrays
  abbrev labels-front : List ℕ
  labels-front = take n labels

  abbrev free-front : List ℕ
  free-front = take (n * n) free

  abbrev falling-front : List ℕ
  falling-front = take (n * n) falling

  -- hop is asked over them
  pub within_fronts : (v class t : ℕ) → hop_within labels free falling n v class t ≡ hop_in labels-front free-front falling-front n v class t
  unfolding hop_within
  within_fronts v class t = let m = tabled.most in let e : min n max_nodes ≡ n = omega arith in rw e

  label-front : (v : ℕ) → v < n → label_in labels-front v ≡ label v
  label-front v l = get_or-take n labels v 0 l

  -- a row of a node is there, with the entry of its class for each destination
  module _ (class : Bool) (v : ℕ) (here : v < n) where
    known : row_known free-front falling-front n v (class_of class) ≡ true
    known =
        let a = tabled.free-long in
        let b = tabled.falling-long in
        faultless_known free-front falling-front n v (class_of class) (record {
          least = tabled.least;
          most = tabled.most;
          free-long = length-take (n * n) free ∙ omega arith;
          falling-long = length-take (n * n) falling ∙ omega arith;
          node-low = here;
          class_low = class-le class;
        })

    pub row-long : length (row_in free-front falling-front n v (class_of class)) ≡ n
    row-long = row-length free-front falling-front n v (class_of class) known

    module _ (t : ℕ) (there : t < n) where
      inside : v * n + t < n * n
      inside = let b : suc v * n ≤ n * n = mul-le-mul here (le_refl n) in omega arith

      at : (class : Bool) → get_or (table_in free-front falling-front (class_of class)) (v * n + t) 0 ≡ entry n edge label t class v
      at true = rw (free-table free-front falling-front 0 refl) (get_or-take (n * n) free (v * n + t) 0 inside ∙ tabled.free-rows v t here there)
      at false =
          rw (falling-table free-front falling-front 1 (λ e. omega arith))
          (get_or-take (n * n) falling (v * n + t) 0 inside ∙ tabled.falling-rows v t here there)

      pub row-entry : get_or (row_in free-front falling-front n v (class_of class)) t 0 ≡ entry n edge label t class v
      row-entry =
          rw (row-known free-front falling-front n v (class_of class) known)
          (get_or-take n _ t 0 there ∙ get_or-drop (v * n) (table_in free-front falling-front (class_of class)) t 0 ∙ at class)

  -- and hop makes of it what it makes of an entry
  module _ (class : Bool) (v t : ℕ) (here : v < n) (there : t < n) where
    asked : hop_within labels free falling n v (class_of class) t ≡ onward_of labels-front n v (class_of class) t (entry n edge label t class v)
    asked =
        let long = tabled.labels-long in
        within_fronts v (class_of class) t ∙ hop-known labels-front free-front falling-front n v (class_of class) t (record { row = known class v here; there = there; labelled = length-take n labels ∙ omega arith })
        ∙ ap (onward_of labels-front n v (class_of class) t) (row-entry class v here t there)

    -- where no way of the class leads there: none
    pub hop-none : ((l : List ℕ) → WayTo edge label class v t l → ⊥) → hop_within labels free falling n v (class_of class) t ≡ NoWay
    hop-none without =
        let few = tabled.most in
        asked
        ∙ onward-none labels-front n v (class_of class) t _
        ((entry-none-iff n edge label tabled.network tabled.climbing.distinct (omega arith) class v t here there).1 without)

  -- at the destination: the node itself, and the class that it came with
  pub hop_home : (class : Bool) (t : ℕ) → t < n → hop_within labels free falling n t (class_of class) t ≡ Next t (class_of class)
  hop_home class t there =
      let few = tabled.most in
      asked class t t there there ∙ ap (onward_of labels-front n t (class_of class) t) (entry-self n edge label t class)
      ∙ onward-next labels-front n t (class_of class) t t (λ e. omega arith) there (sym (class-here labels-front t (class_of class) t t refl))

  -- the class after a hop, by labels, is that of the run
  class-hop : {c d : Bool} {v u : ℕ} (t : ℕ) → Hop edge label c v d u → v < n → u < n → (v ≡ t → ⊥) → class_of d ≡ class_after labels-front v (class_of c) t u
  class-hop {v = v} {u = u} t (rise h) k l away =
      let up = rises-lt edge label v u h in
      let x = label-front v k in
      let y = label-front u l in
      sym (class-free labels-front v 0 t u away (λ e. omega arith) (omega arith))
  class-hop {c = c} {v = v} {u = u} t (fall h) k l away =
      let down = falls-lt edge label v u h in
      let x = label-front v k in
      let y = label-front u l in
      sym (class-fall labels-front v (class_of c) t u away (omega arith))

  module _ {class : Bool} {v t k : ℕ} (here : v < n) (there : t < n) (away : v ≡ t → ⊥) (run : Run edge label class v t k) where
    abbrev u : ℕ
    u = entry n edge label t class v

    nearer : Nearer n edge label t class v u
    nearer = entry-nearer n edge label t tabled.network.inside there away run

    -- away from the destination, where a way of the class leads there: the entry and the class after it
    pub hop-entry : hop_within labels free falling n v (class_of class) t ≡ Next u (class_of (free_after edge label class v u))
    hop-entry =
        let low = nearer.low in
        let few = tabled.most in
        asked class v t here there
        ∙ onward-next labels-front n v (class_of class) t u (λ e. omega arith) low (class-hop t nearer.first here low away)

  -- whoever asks at each node follows the entries
  module _ (t : ℕ) (there : t < n) where
    abbrev ask : ℕ → ℕ → HopAnswer
    ask v class = hop_within labels free falling n v class t

    pub walk-follows : (k : ℕ) {class : Bool} {v j : ℕ} → v < n → Run edge label class v t j
        → walk_by ask t k (class_of class) v ≡ follow edge label (entry n edge label t) t k class v
    unfolding walk_by follow
    walk-follows zero here run = refl
    walk-follows (suc k) {class} {v} here run =
        bcase (same v t)
        (λ e. rw (same-eq v t e) (walk_here ask t (suc k) (class_of class) ∙ sym (follow-here edge label (entry n edge label t) t (suc k) class)))
        (λ e.
        let away = same-ne v t e in
        let s = nearer here there away run in
        let next = entry n edge label t class v in
        walk-there ask t k (class_of class) v away (hop-entry here there away run)
        ∙ ap (λ (l : List ℕ). next ∷ l) (walk-follows k s.low s.run)
        ∙ sym (follow-there edge label (entry n edge label t) t k class v away))

    -- RULES 7.5: "a message that asks hop at each node, free at first and then with the class that it was answered, walks its route (5.4)"
    pub walk-route : (s : ℕ) → s < n → walk_by ask t (n + n) 0 s ≡ route_of n edge label s t
    unfolding route_of
    walk-route s here =
        let way = climbing-run n edge label tabled.climbing tabled.network.undirected s t here there in
        walk-follows (n + n) {class = true} here way.1
