-- The stages as the code runs them: the word, the table and the labels stay in step with what remains.
use mathlib.Core.Path.{◌≡◌, refl, sym, ◌∙◌, ap, ap₂, fun_ext}
use mathlib.Core.Bool.{Bool}
use mathlib.Core.List.{List}
use Prim.Native.Nat.{ℕ, suc, ◌+◌, ◌≤◌}
use native.Mathlib.Numerals.{add-one}
use native.Mathlib.Omega.{arith}
use lib.ListN.{length, set, replicate, length-replicate}
use lib.Seq.{set_out}
use Rattle.finite.specs.Truth.{below}
use Rattle.finite.specs.Sets.{has, set_of, without}
use Rattle.finite.proofs.Truth.{bcase, below-lt, below-le}
use Rattle.graph.specs.Network.{Members, among}
use Rattle.nodes.specs.Limits.{max_nodes}
use Rattle.nodes.proofs.Words.{has_all}
use Rattle.network.specs.Table.{edge_of, remaining, struck_out}
use Rattle.network.proofs.Meaning.{edge-remaining, strike_remaining}
use Rattle.rule.specs.Candidate.{choice}
use Rattle.rule.specs.Labels.{remains, give, stage, labelled}
use Rattle.rule.proofs.Stages.{give-length, remains-start, remains-give, remains_in}
use Rattle.labels.specs.Links.{choice_by}
use Rattle.labels.proofs.Remaining.{choice-links}

pub record Giving (t : List ℕ) (m k w : ℕ) (rest out : List ℕ) : Type 0 where
  pub labels : out ≡ labelled max_nodes (edge_of t) m k
  pub size : length out ≡ max_nodes
  pub word : w ≡ set_of max_nodes (remains m out)
  pub table : rest ≡ remaining (remains m out) (edge_of t)

word-has : (R : ℕ → Bool) {w : ℕ} → Members max_nodes R → w ≡ set_of max_nodes R → has w ≡ R
word-has R m e = fun_ext (λ v. ap (λ (x : ℕ). has x v) e ∙ has_all max_nodes R m v)

-- a label put at a place is given, as past the last node there is no place
pub put-give : (out : List ℕ) (v k : ℕ) {new : List ℕ} → length out ≡ max_nodes → new ≡ set out v k → new ≡ give max_nodes v k out
unfolding give
put-give out v k e f =
    f
    ∙ bcase (below v max_nodes) (λ h. rw (h, give) refl)
    (λ h. rw (h, give) (set_out out v k (let l = below-le _ _ h in omega arith)))

pub giving_none : (t : List ℕ) (m : ℕ) {w : ℕ} {rest : List ℕ} → m ≤ max_nodes → w ≡ set_of max_nodes (λ v. below v m)
    → rest ≡ remaining (has w) (edge_of t) → Giving t m 0 w rest (replicate max_nodes 0)
unfolding labelled
giving_none t m {w} l e f =
    let s = remains-start max_nodes m in
    record {
      labels = refl;
      size = length-replicate {A = ℕ} max_nodes 0;
      word = e ∙ ap (set_of max_nodes) (sym s);
      table =
          f ∙ ap (λ (R : ℕ → Bool). remaining R (edge_of t)) (word-has (λ v. below v m) (λ v h. let a = below-lt _ _ h in omega arith) e ∙ sym s);
    }

pub giving_more : (t : List ℕ) (m k w : ℕ) (rest out : List ℕ) {v w' : ℕ} {rest' out' : List ℕ} → m ≤ max_nodes → Giving t m k w rest out
    → v ≡ choice_by max_nodes (edge_of rest) (has w) → out' ≡ give max_nodes v (k + 1) out → rest' ≡ struck_out v rest
    → w' ≡ set_of max_nodes (without (has w) v) → Giving t m (k + 1) w' rest' out'
unfolding labelled stage
giving_more t m k w rest out {v} {out' = out'} l g ev eo er ew =
    let R : ℕ → Bool = remains m out in
    let h = word-has R (remains_in m max_nodes out l) g.word in
    let links : edge_of rest ≡ among R (edge_of t) = ap edge_of g.table ∙ edge-remaining R (edge_of t) (remains_in m max_nodes out l) in
    let chosen : v ≡ choice max_nodes (edge_of t) R = ev ∙ ap₂ (choice_by max_nodes) links h ∙ choice-links max_nodes (edge_of t) R in
    let new : out' ≡ give max_nodes v (suc k) out = eo ∙ ap (λ (x : ℕ). give max_nodes v x out) (add-one k) in
    let left : remains m out' ≡ without R v = ap (remains m) new ∙ remains-give max_nodes m v k out g.size l in
    record {
      labels =
          new ∙ ap (λ (x : ℕ). give max_nodes x (suc k) out) chosen
          ∙ ap (λ (x : List ℕ). give max_nodes (choice max_nodes (edge_of t) (remains m x)) (suc k) x) g.labels
          ∙ ap (labelled max_nodes (edge_of t) m) (sym (add-one k));
      size = ap length new ∙ give-length max_nodes v (suc k) out ∙ g.size;
      word = ew ∙ ap (λ (S : ℕ → Bool). set_of max_nodes (without S v)) h ∙ ap (set_of max_nodes) (sym left);
      table =
          er ∙ ap (struck_out v) g.table ∙ strike_remaining R (edge_of t) (remains_in m max_nodes out l) v
          ∙ ap (λ (S : ℕ → Bool). remaining S (edge_of t)) (sym left);
    }
