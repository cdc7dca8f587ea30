-- A message on its way: it stands at a node of its route, and the entries of its class lead along the rest of the route.
use mathlib.Core.Path.{◌≡◌, refl, sym, ◌∙◌, ap}
use mathlib.Core.Bool.{Bool, true}
use mathlib.Core.List.{List, ◌∷◌}
use Prim.Native.Nat.{ℕ, zero, suc, ◌+◌, ◌≤◌, ◌<◌, zero-le}
use native.Mathlib.Nat.{le_of_lt}
use native.Mathlib.Omega.{arith}
use lib.ListN.{length, get_or, drop}
use Rattle.finite.proofs.Slices.{drop_split, drop-end}
use Rattle.lawful.specs.Entry.{entry, free_after, follow, route_of}
use Rattle.lawful.proofs.Run.{Hop, Run, hop-edge}
use Rattle.lawful.proofs.Routes.{hops_of, Nearer, hops-bound, entry-nearer, follow-here, follow-there}

-- a message to t, i hops along the route l from v, in this class and at this node
pub record OnWay (n : ℕ) (edge : ℕ → ℕ → Bool) (label : ℕ → ℕ) (v t : ℕ) (l : List ℕ) (i : ℕ) (class : Bool) (node : ℕ) : Type 0 where
  pub low : node < n
  pub within : i ≤ length l
  pub at : node ≡ get_or (v ∷ l) i 0
  pub left : ℕ
  pub run : Run edge label class node t left
  pub fuel : ℕ
  pub enough : hops_of n edge label t class node ≤ fuel
  pub rest : follow edge label (entry n edge label t) t fuel class node ≡ drop i l

module _ {n : ℕ} {edge : ℕ → ℕ → Bool} {label : ℕ → ℕ} (inside : (a b : ℕ) → edge a b ≡ true → b < n) {v t : ℕ} (low : t < n) where
  pub way-start : v < n → (k : ℕ) → Run edge label true v t k → OnWay n edge label v t (route_of n edge label v t) 0 true v
  unfolding route_of
  way-start l k r = record {
    low = l;
    within = zero-le;
    at = refl;
    left = k;
    run = r;
    fuel = n + n;
    enough = le_of_lt (hops-bound n edge label t inside low r);
    rest = refl;
  }

  module _ {l : List ℕ} {i : ℕ} {class : Bool} {node : ℕ} (w : OnWay n edge label v t l i class node) where
    -- at t the route is over
    pub way_end : node ≡ t → i ≡ length l
    way_end e =
        let b = w.within in
        let f = ap (follow edge label (entry n edge label t) t w.fuel class) e in
        let z = drop-end l i (sym w.rest ∙ f ∙ follow-here edge label (entry n edge label t) t w.fuel class) in
        omega arith

    abbrev next : ℕ
    next = entry n edge label t class node

    abbrev class-then : Bool
    class-then = free_after edge label class node next

    -- anywhere else the entry is the next node of the route, and the message is on its way from there
    module _ (d : node ≡ t → ⊥) where
      nearer : Nearer n edge label t class node next
      nearer = entry-nearer n edge label t inside low d w.run

      way-hop : Hop edge label class node class-then next
      way-hop = nearer.first

      pub way_next : OnWay n edge label v t l (suc i) class-then next
      way_next = go w.fuel w.enough w.rest
        where
          go : (k : ℕ) → hops_of n edge label t class node ≤ k → follow edge label (entry n edge label t) t k class node ≡ drop i l
              → OnWay n edge label v t l (suc i) class-then next
          go zero b e = let less = nearer.less in absurd (omega arith)
          go (suc k) b e =
              let less = nearer.less in
              let s = drop_split l i next _ (sym e ∙ follow-there edge label (entry n edge label t) t k class node d) in
              record {
                low = inside _ _ (hop-edge way-hop);
                within = s.low;
                at = sym s.here;
                left = hops_of n edge label t class-then next;
                run = nearer.run;
                fuel = k;
                enough = omega arith;
                rest = sym s.on;
              }
