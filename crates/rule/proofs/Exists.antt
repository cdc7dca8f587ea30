-- RULES 4.2: "A candidate always exists (the paper's Lemma 2)": a connected remaining graph has one.
use mathlib.Core.Bool.{Bool}
use Prim.Native.Nat.{ℕ, ◌+◌, ◌*◌}
use Rattle.finite.specs.Sum.{when}
use Rattle.finite.proofs.Truth.{both, true-non}
use Rattle.finite.specs.Search.{Some}
use Rattle.finite.proofs.Search.{smallest}
use Rattle.graph.specs.Network.{Network, Members, Connected, degree}
use Rattle.rule.specs.Candidate.{candidate}
use Rattle.rule.proofs.Part.{uncut-part}
use Rattle.rule.proofs.Room.{least-room}

-- in a part without cut nodes, a node of least degree; of several, one not next to the border node c comes first
pub candidate_exists : (n : ℕ) (edge : ℕ → ℕ → Bool) → Network n edge → (R : ℕ → Bool) → Members n R → Connected edge R → Some n R
    → Some n (candidate n edge R)
unfolding candidate
candidate_exists n edge net R m conn s =
    let p = uncut-part n edge net R m conn s in
    let c = p.c in
    let H = p.H in
    let member = p.part.member in
    let v = smallest n H (λ u. 2 * degree n edge R u + when (edge c u) 1) p.part.some in
    let room = least-room n edge net R m c H p.part v.at v.fact (λ u t. v.bound u (m u (member u t)) t) in
    record { at = v.at; low = v.low; fact = both (member v.at v.fact) (both room (true-non (p.uncut v.at v.fact))) }
