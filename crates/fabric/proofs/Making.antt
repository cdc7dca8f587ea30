-- The code's width is tied to N once: labels and tables made at 64 nodes are those of the cabling's own N, with zeros behind.
use Rattle.std.specs.Prelude.{Result, Ok, Err}
use Rattle.refusal.specs.Verdicts.{Verdict}
use mathlib.Core.Path.{◌≡◌, refl, sym, ◌∙◌, ap, ap₂}
use mathlib.Core.Bool.{Bool, true, false}
use mathlib.Core.List.{List}
use Prim.Native.Nat.{ℕ, min}
use native.Mathlib.Nat.{min-eq_left}
use native.Mathlib.Omega.{arith}
use Rattle.finite.specs.Lists.{padded}
use Rattle.finite.proofs.Lists.{tabulate_cong}
use Rattle.finite.proofs.Grid.{cell-low}
use Rattle.graph.proofs.Walk.{network-wider}
use Rattle.nodes.specs.Limits.{max_nodes}
use Rattle.network.specs.Table.{edge_of, table_of}
use Rattle.lawful.specs.Turn.{label_in}
use Rattle.refusal.specs.declared.Refusal.{Refusal}
use Rattle.lawful.proofs.Width.{entry_width}
use Rattle.rule.specs.Labels.{labels_of}
use Rattle.rule.proofs.Width.{labels_width}
use Rattle.rows.specs.declared.Tables.{Tables}
use Rattle.rows.specs.Tables.{table_size, rows_of, tables_of}
use Rattle.cabling.specs.Cabling.{Cabling, Good, links}
use Rattle.cabling.proofs.Joined.{good-network, table-links}
use Rattle.fabric.specs.declared.Fabric.{Fabric}
use Rattle.fabric.specs.Fabric.{labels_for, label_for, rows_for, fabric_of, made_by}
use Rattle.fabric.proofs.Labels.{good-climbing}
use Rattle.fabric.proofs.Arrays.{label_read}

-- ---- the fabric of a good cabling

module _ {c : Cabling} (g : Good c) where
  labels-made : (t l : List ℕ) → t ≡ table_of c.pairs → l ≡ labels_of max_nodes (edge_of t) (min c.nodes max_nodes) → l ≡ padded max_nodes (labels_for c)
  labels-made t l et el =
      el ∙ ap₂ (λ (e : ℕ → ℕ → Bool) (m : ℕ). labels_of max_nodes e m) (ap edge_of et ∙ table-links g) (min-eq_left g.few)
      ∙ labels_width c.nodes max_nodes g.few (links c) (good-network g) g.connected

  rows_made : (class : Bool) → rows_of max_nodes c.nodes (links c) (label_for c) class ≡ rows_for c class
  unfolding rows_of
  rows_made class =
      tabulate_cong _ _ _ (λ i l.
      let few = g.few in
      let (v, t) = cell-low c.nodes i l in
      entry_width max_nodes c.nodes (links c) (label_for c) (network-wider c.nodes max_nodes few (links c) (good-network g)) (good-network g) (good-climbing g).distinct
      _ class _ (omega arith) (omega arith) t)

  pub fabric-made : (t l : List ℕ) (r : Tables) → t ≡ table_of c.pairs → l ≡ labels_of max_nodes (edge_of t) (min c.nodes max_nodes)
      → r ≡ tables_of max_nodes (min c.nodes max_nodes) (edge_of t) (label_in l)
      → record { nodes = c.nodes; labels = l; free = r.free; falling = r.falling } ≡ fabric_of c
  unfolding fabric_of tables_of
  fabric-made t l r et el er =
      let a = labels-made t l et el in
      let b : r ≡ tables_of max_nodes c.nodes (links c) (label_for c) =
      er ∙ ap₂ (λ (e : ℕ → ℕ → Bool) (m : ℕ). tables_of max_nodes m e (label_in l)) (ap edge_of et ∙ table-links g) (min-eq_left g.few)
      ∙ ap (tables_of max_nodes c.nodes (links c)) (ap label_in a ∙ label_read c) in
      let f = ap (λ (x : Tables). x.free) b ∙ ap (padded table_size) (rows_made true) in
      let h = ap (λ (x : Tables). x.falling) b ∙ ap (padded table_size) (rows_made false) in
      rw (a, f, h)

-- ---- the two outcomes

-- the verdict may be said in another way
pub made_as : (c : Cabling) {v w : Verdict} {m : Result Fabric Refusal} → m ≡ made_by v c → v ≡ w → m ≡ made_by w c
made_as c e f = e ∙ ap (λ (x : Verdict). made_by x c) f

pub made_fault : (c : Cabling) {v : Verdict} {r : Refusal} → v ≡ Err r → Err r ≡ made_by v c
unfolding made_by
made_fault c e = rw e

pub made-fine : (c : Cabling) {v : Verdict} {f : Fabric} → v ≡ Ok tt → f ≡ fabric_of c → Ok f ≡ made_by v c
unfolding made_by
made-fine c e b = rw (e, b)

-- what is made tells its verdict, and where that is fine, its fabric
err-made : (c : Cabling) (v : Verdict) {r : Refusal} → made_by v c ≡ Err r → v ≡ Err r
unfolding made_by
err-made c (Ok _) h = absurd (let z : ◌≡◌ {A = ℕ} 0 1 = cc in omega arith)
err-made c (Err q) h = cc

ok-made : (c : Cabling) (v : Verdict) {f : Fabric} → made_by v c ≡ Ok f → (v ≡ Ok tt) × (f ≡ fabric_of c)
unfolding made_by
ok-made c (Ok _) h = (refl, cc)
ok-made c (Err q) h = absurd (let z : ◌≡◌ {A = ℕ} 0 1 = cc in omega arith)

pub fault-made : (c : Cabling) {v : Verdict} {m : Result Fabric Refusal} {r : Refusal} → m ≡ made_by v c → m ≡ Err r → v ≡ Err r
fault-made c e h = err-made c _ (sym e ∙ h)

pub fine-made : (c : Cabling) {v : Verdict} {m : Result Fabric Refusal} {f : Fabric} → m ≡ made_by v c → m ≡ Ok f → (v ≡ Ok tt) × (f ≡ fabric_of c)
fine-made c e h = ok-made c _ (sym e ∙ h)

-- two answers that a promise allows are equal
pub made_determined : (v : Verdict) (c : Cabling) (x y : Result Fabric Refusal) → x ≡ made_by v c → y ≡ made_by v c → x ≡ y
made_determined v c x y e f = e ∙ sym f
