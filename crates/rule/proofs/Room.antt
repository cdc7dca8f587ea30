-- In a part of R, take a node of least degree d, and one that is not next to the border node where there is such a one.
-- Its neighbours' degrees add up to d * d or more, so it has room.
use mathlib.Core.Path.{◌≡◌, refl, sym, ◌∙◌, ap}
use mathlib.Core.Bool.{Bool, true, false}
use Prim.Native.Nat.{ℕ, zero, suc, ◌+◌, ◌*◌, ◌-◌, ◌≤◌}
use native.Mathlib.Omega.{arith}
use borrow.Author.Tests.{le-leb}
use Rattle.finite.specs.Truth.{◌&◌}
use Rattle.finite.specs.Sum.{when, sum_if, count}
use Rattle.finite.specs.Sets.{without}
use Rattle.finite.proofs.Truth.{no_tf, bcase, both, and_l, and_r, non-true}
use Rattle.finite.proofs.Sum.{sum-without, when-le, when_true, count-le, count-member, count-without, sum_if_cong, sum_if-bound, sum_if-add, sum_if-when}
use Rattle.finite.proofs.Sets.{without_in, without-ne, in_without}
use Rattle.graph.specs.Network.{Network, Members, degree}
use Rattle.rule.specs.Candidate.{room}
use Rattle.rule.proofs.Part.{Part}

module _ (n : ℕ) (edge : ℕ → ℕ → Bool) (net : Network n edge) (R : ℕ → Bool) (m : Members n R) where
  abbrev deg : ℕ → ℕ
  deg = degree n edge R

  abbrev next : ℕ → ℕ → Bool
  next v u = R u & edge v u

  degree-count : (v : ℕ) → deg v ≡ count n (next v)
  unfolding degree
  degree-count v = refl

  -- d * d ≤ the sum of the neighbours' degrees makes room
  square_room : (v : ℕ) → R v ≡ true → deg v * deg v ≤ sum_if n (next v) deg → room n edge R v ≡ true
  unfolding room
  square_room v rv h =
      let back = sum_if_cong n (next v) deg (λ u. deg u - 1 + 1) (λ u t.
      let k = count-member n (next u) v (m v rv) (both rv (net.undirected v u (and_r _ _ t))) in
      let e = degree-count u in
      omega arith) in
      let parts = sum_if-add n (next v) (λ u. deg u - 1) (λ u. 1) in
      let d = degree-count v in
      le-leb _ _ (go (deg v) (sum_if n (next v) (λ u. deg u - 1)) (omega arith))
    where
      go : (d x : ℕ) → d * d ≤ x + d → d * (d - 1) ≤ x
      go zero x h = omega arith
      go (suc k) x h = let e : suc k - 1 ≡ k = omega arith in rw e (omega arith)

  module _ (c : ℕ) (H : ℕ → Bool) (part : Part n edge R c H) (v : ℕ) (hv : H v ≡ true) where
    neighbour : (u : ℕ) → (c ≡ u → ⊥) → next v u ≡ true → H u ≡ true
    neighbour u d t = part.closed v u hv (and_l _ _ t) (and_r _ _ t) d

    -- where v is next to c, it and a node outside H are neighbours of c, besides those that c and v share
    shared : edge c v ≡ true → count n (λ u. without (next v) c u & edge c u) + 2 ≤ deg c
    shared e =
        let s = (part.border v hv e).1 in
        let x : ℕ = s.at in
        let hx = non-true _ (and_r _ _ (and_r _ _ s.fact)) in
        let cx : next c x ≡ true = both (and_l _ _ s.fact) (and_l _ _ (and_r _ _ s.fact)) in
        let rv = part.member v hv in
        let d = degree-count c in
        let not-v = count-without n (next c) v (m v rv) (both rv e) in
        let not-x = count-without n (without (next c) v) x s.low (in_without (next c) cx (λ q. no_tf hv (ap H q ∙ hx))) in
        let rest = count-le n (λ u. without (next v) c u & edge c u) (without (without (next c) v) x) (λ u l t.
        let vu = without_in (next v) c u (and_l _ _ t) in
        let hu = neighbour u (without-ne (next v) c u (and_l _ _ t)) vu in
        let cu = both (and_l _ _ vu) (and_r _ _ t) in
        let not-v = in_without (next c) cu (λ q. net.no_loop v (ap (edge v) q ∙ and_r _ _ vu)) in
        in_without (without (next c) v) not-v (λ q. no_tf hu (sym (ap H q) ∙ hx))) in
        omega arith

    module _ (least : (u : ℕ) → H u ≡ true → 2 * deg v + when (edge c v) 1 ≤ 2 * deg u + when (edge c u) 1) where
      -- where v is not next to c, each neighbour's degree is at least v's
      square_inner : edge c v ≡ false → deg v * deg v ≤ sum_if n (next v) deg
      unfolding degree
      square_inner e =
          sum_if-bound n (next v) deg (deg v) (λ u t.
          let b = least u (neighbour u (λ q. no_tf (net.undirected v c (ap (edge v) q ∙ and_r _ _ t)) e) t) in
          let w = when-le (edge c u) 1 in
          omega arith)

      -- where v is next to c, each other neighbour has a degree above v's or is next to c
      square_border : edge c v ≡ true → deg v * deg v ≤ sum_if n (next v) deg
      square_border e =
          let rc = (part.border v hv e).0 in
          let vc = both rc (net.undirected c v e) in
          let p = without (next v) c in
          let d : deg v ≡ suc (count n p) = degree-count v ∙ count-without n (next v) c (m c rc) vc in
          let all = sum-without n (next v) deg c (m c rc) vc in
          let each = sum_if-bound n p (λ u. deg u + when (edge c u) 1) (count n p + 2) (λ u t.
          let b = least u (neighbour u (without-ne (next v) c u t) (without_in (next v) c u t)) in
          let o = when_true 1 e in
          omega arith) in
          let two = sum_if-add n p deg (λ u. when (edge c u) 1) in
          let both-next = sum_if-when n p (edge c) (λ u. 1) in
          let s = shared e in
          rw d (omega arith)

      pub least-room : room n edge R v ≡ true
      least-room = square_room v (part.member v hv) (bcase (edge c v) square_border square_inner)
