-- Labels do not depend on the width that they are computed at, if it has room for the nodes: of a wider list of labels the front is the narrow one, with zeros behind.
use mathlib.Core.Path.{◌≡◌, sym, ◌∙◌, ap, ap₂}
use mathlib.Core.Bool.{Bool}
use Prim.Native.Nat.{ℕ, ◌*◌, ◌-◌, ◌≤◌, ◌<◌}
use native.Mathlib.Nat.{le_refl}
use native.Mathlib.Omega.{arith}
use lib.Dec.{leb}
use lib.ListN.{get_or-eq_default}
use Rattle.finite.specs.Truth.{◌&◌, non, below}
use Rattle.finite.specs.Sum.{when}
use Rattle.finite.specs.Lists.{padded}
use Rattle.finite.proofs.Truth.{bcase, iff, and_l, below-lt, below-le}
use Rattle.finite.proofs.Sum.{sum_cong, sum_if-cut}
use Rattle.finite.proofs.Lists.{padded_ext}
use Rattle.graph.specs.Network.{Network, Members, Connected, degree}
use Rattle.graph.specs.Reach.{cut}
use Rattle.graph.proofs.Connected.{cut-iff}
use Rattle.graph.proofs.Walk.{network-wider}
use Rattle.lawful.specs.Turn.{label_in}
use Rattle.rule.specs.Candidate.{room, candidate, Chosen}
use Rattle.rule.specs.Labels.{labels_of, above}
use Rattle.rule.proofs.Stages.{labelled-length}
use Rattle.rule.proofs.Labels.{label, above_low, label_out, labels-by_rule, labels_unique}

module _ (m n : ℕ) (small : m ≤ n) (edge : ℕ → ℕ → Bool) (net : Network m edge) where
  -- the remaining nodes are among the m
  module _ (R : ℕ → Bool) (low : Members m R) where
    degree_width : (v : ℕ) → degree n edge R v ≡ degree m edge R v
    unfolding degree
    degree_width v = sum_if-cut m n (λ u. R u & edge v u) (λ u. 1) small (λ u t. low u (and_l _ _ t))

    room_width : (v : ℕ) → room n edge R v ≡ room m edge R v
    unfolding room
    room_width v =
        ap₂ leb (ap₂ ◌*◌ (degree_width v) (ap (λ (x : ℕ). x - 1) (degree_width v)))
        (sum_if-cut m n (λ u. R u & edge v u) (λ u. degree n edge R u - 1) small (λ u t. low u (and_l _ _ t))
        ∙ sum_cong m _ _ (λ u l. ap (λ (x : ℕ). when (R u & edge v u) (x - 1)) (degree_width u)))

    cut_width : (v : ℕ) → cut n edge R v ≡ cut m edge R v
    cut_width v =
        let i = cut-iff n edge (network-wider m n small edge net) R (λ u h. let l = low u h in omega arith) v in
        let j = cut-iff m edge net R low v in
        iff _ _ (λ t. j.1 (i.0 t)) (λ t. i.1 (j.0 t))

    candidate_width : (v : ℕ) → candidate n edge R v ≡ candidate m edge R v
    unfolding candidate
    candidate_width v = ap₂ (λ (x y : Bool). R v & x & non y) (room_width v) (cut_width v)

    chosen_width : (v : ℕ) → Chosen m edge R v → Chosen n edge R v
    unfolding candidate
    chosen_width v c = record {
      low = let l = low v (and_l _ _ c.fact) in omega arith;
      fact = candidate_width v ∙ c.fact;
      first = λ u l h.
          let i = low u (and_l _ _ h) in
          rw (degree_width v, degree_width u) (c.first u i (sym (candidate_width u) ∙ h));
    }

  module _ (whole : Connected edge (λ v. below v m)) where
    -- the label of each node
    pub label_width : (v : ℕ) → v < m → label_in (labels_of n edge m) v ≡ label_in (labels_of m edge m) v
    label_width v b =
        let r = labels-by_rule m edge net m (le_refl m) whole in
        let l : ℕ → ℕ = label m edge net m (le_refl m) whole in
        sym (labels_unique n edge (network-wider m n small edge net) m small whole l (record {
          positive = r.positive;
          given = r.given;
          chosen = λ v j h e. chosen_width (above m l j) (λ u t. above_low m l j u t) v (r.chosen v j h e);
        }) v b)

    -- the whole list
    pub labels_width : labels_of n edge m ≡ padded n (labels_of m edge m)
    unfolding labels_of
    labels_width =
        let long = labelled-length m edge m m in
        padded_ext n (labels_of m edge m) (labels_of n edge m) (omega arith) (labelled-length n edge m m)
        (λ v b.
        bcase (below v m) (λ t. label_width v (below-lt _ _ t))
        (λ t. label_out n edge (network-wider m n small edge net) m small whole v (below-le _ _ t) ∙ sym (get_or-eq_default (labels_of m edge m) 0 (rw long (below-le _ _ t)))))
