-- The loop along the hops: what is laid, and the nodes that are still to come behind it, are the whole route.
use mathlib.Core.Path.{◌≡◌, refl, sym, ◌∙◌, ap}
use mathlib.Core.Bool.{false}
use mathlib.Core.List.{List, [], ◌∷◌, ◌++◌, append_assoc, append-nil}
use Prim.Native.Nat.{ℕ, zero, suc, ◌+◌, ◌-◌, ◌<◌}
use native.Mathlib.Numerals.{add-one}
use native.Mathlib.Nat.{sub-zero}
use native.Mathlib.Omega.{arith}
use lib.ListN.{length, length-append}
use Rattle.hops.specs.Hop.{HopAnswer, Next, hop_within, has_next, walk_by}
use Rattle.hops.proofs.Cases.{walk_here, walk_stuck, walk-there}
use Rattle.fabric.specs.declared.Fabric.{Fabric}
use Rattle.laid.specs.Laid.{Page, page, behind}
use Rattle.laid.specs.Lays.{Lays}
use Rattle.laid.proofs.Pieces.{lays-none, lays_more, lays_as}
use Rattle.route.specs.Follow.{followed}

module _ (f : Fabric) (s t : ℕ) where
  abbrev ask : ℕ → ℕ → HopAnswer
  ask v class = hop_within f.labels f.free f.falling f.nodes v class t

  -- the nodes after v, j at the most; and from v on, j at the most
  abbrev after_of : ℕ → ℕ → ℕ → List ℕ
  after_of j class v = walk_by ask t j class v

  abbrev from_of : ℕ → ℕ → ℕ → List ℕ
  from_of zero class v = []
  from_of (suc j) class v = v ∷ after_of j class v

  after_stuck : (j class v : ℕ) → (v ≡ t → ⊥) → has_next (ask v class) ≡ false → after_of j class v ≡ []
  unfolding walk_by
  after_stuck zero class v away h = refl
  after_stuck (suc j) class v away h = walk_stuck ask t j class v away h

  after-hop : (j class v : ℕ) {u c : ℕ} → (v ≡ t → ⊥) → ask v class ≡ Next u c → after_of j class v ≡ from_of j c u
  unfolding walk_by
  after-hop zero class v away h = refl
  after-hop (suc j) class v away h = walk-there ask t j class v away h

  -- k nodes are laid in the buffer b, and those from v on, with the class there, are to come
  pub record Following (b : List ℕ) (q : Page) (v class k : ℕ) : Type 0 where
    pub done : List ℕ
    pub lays : Lays b q done
    pub size : length done ≡ k
    pub rest : done ++ from_of (f.nodes + f.nodes + 1 - k) class v ≡ followed f s t

  -- none at first
  pub following_none : (b : List ℕ) → Following b (page b 0) s 0 0
  unfolding followed
  following_none b = record { done = []; lays = lays-none b; size = refl; rest = rw (sub-zero, add-one) }

  module _ {b : List ℕ} {q r : Page} {v class k : ℕ} (w : Following b q v class k) (l : k < f.nodes + f.nodes + 1) (room : f.nodes + f.nodes < length b)
      (e : r ≡ behind q (v ∷ [])) where
    abbrev with : List ℕ
    with = w.done ++ (v ∷ [])

    with-lays : Lays b r with
    with-lays = let size = w.size in lays_more (v ∷ []) w.lays e (omega arith)

    with_rest : with ++ after_of (f.nodes + f.nodes - k) class v ≡ followed f s t
    with_rest =
        let j : f.nodes + f.nodes + 1 - k ≡ suc (f.nodes + f.nodes - k) = omega arith in append_assoc w.done (v ∷ []) _ ∙ rw j at w.rest

    with_all : after_of (f.nodes + f.nodes - k) class v ≡ [] → Lays b r (followed f s t)
    with_all h = lays_as with-lays (sym (append-nil with) ∙ rw h at with_rest)

    -- at the destination no node is to come behind its own
    pub following_there : v ≡ t → Lays b r (followed f s t)
    following_there h = with_all (rw h (walk_here ask t (f.nodes + f.nodes - k) class))

    module _ (away : v ≡ t → ⊥) {answer : HopAnswer} (h : answer ≡ ask v class) where
      -- nor where hop answers no node
      pub following_stuck : has_next answer ≡ false → Lays b r (followed f s t)
      following_stuck no_Node = with_all (after_stuck (f.nodes + f.nodes - k) class v away (ap has_next (sym h) ∙ no_Node))

      -- elsewhere those from the next node on are, with the class that is answered
      pub following_more : {u c : ℕ} → answer ≡ Next u c → Following b r u c (k + 1)
      following_more is =
          let size = w.size in
          let j : f.nodes + f.nodes + 1 - (k + 1) ≡ f.nodes + f.nodes - k = omega arith in
          record {
            done = with;
            lays = with-lays;
            size = length-append w.done (v ∷ []) ∙ omega arith;
            rest = rw (j, ← after-hop (f.nodes + f.nodes - k) class v away (sym h ∙ is)) with_rest;
          }
