-- What the row call answers, by cases: which arguments are refused, and where a row stands in its table.
use mathlib.Core.Path.{◌≡◌}
use mathlib.Core.Bool.{true, false}
use mathlib.Core.List.{List, []}
use Prim.Native.Nat.{ℕ, suc, ◌+◌, ◌-◌, ◌*◌, ◌≤◌, ◌<◌}
use native.Mathlib.Nat.{le_refl, mul-le-mul}
use native.Mathlib.Omega.{arith}
use lib.ListN.{length, take, drop, length-take, length-drop}
use Rattle.finite.specs.Truth.{same, below}
use Rattle.finite.proofs.Truth.{no_tf, bcase, refute, both, and_l, and_r, non-true, true-non, same-eq, same-ne, eq-same, ne_same, below-lt, below-le, lt-below, le_below}
use Rattle.nodes.specs.Limits.{max_nodes}
use Rattle.hops.specs.Row.{RowFault, few, many, free-size, falling-size, no_node, no-class, row_known, table_in, row_in}

-- the arguments have no fault
pub record Faultless (free falling : List ℕ) (n node class : ℕ) : Type 0 where
  pub least : 2 ≤ n
  pub most : n ≤ max_nodes
  pub free-long : length free ≡ n * n
  pub falling-long : length falling ≡ n * n
  pub node-low : node < n
  pub class_low : class ≤ 1

pub free-table : (free falling : List ℕ) (class : ℕ) → class ≡ 0 → table_in free falling class ≡ free
unfolding table_in
free-table free falling class e = rw (eq-same e, table_in)

pub falling-table : (free falling : List ℕ) (class : ℕ) → (class ≡ 0 → ⊥) → table_in free falling class ≡ falling
unfolding table_in
falling-table free falling class d = rw (ne_same d, table_in)

module _ (free falling : List ℕ) (n node class : ℕ) where
  -- ---- what is refused

  pub known_faultless : row_known free falling n node class ≡ true → Faultless free falling n node class
  unfolding row_known
  known_faultless t =
      let u = and_r _ _ t in
      let v = and_r _ _ u in
      let w = and_r _ _ v in
      let x = and_r _ _ w in
      record {
        least = below-le _ _ (non-true _ (and_l _ _ t));
        most = below-le _ _ (non-true _ (and_l _ _ u));
        free-long = same-eq _ _ (and_l _ _ v);
        falling-long = same-eq _ _ (and_l _ _ w);
        node-low = below-lt _ _ (and_l _ _ x);
        class_low = below-le _ _ (non-true _ (and_r _ _ x));
      }

  pub faultless_known : Faultless free falling n node class → row_known free falling n node class ≡ true
  unfolding row_known
  faultless_known k =
      both (true-non (le_below k.least))
      (both (true-non (le_below k.most))
      (both (eq-same k.free-long) (both (eq-same k.falling-long) (both (lt-below k.node-low) (true-non (le_below k.class_low))))))

  pub faulty : RowFault free falling n node class → Faultless free falling n node class → ⊥
  faulty (few h) k = omega arith
  faulty (many h) k = omega arith
  faulty (free-size h) k = h k.free-long
  faulty (falling-size h) k = h k.falling-long
  faulty (no_node h) k = omega arith
  faulty (no-class h) k = omega arith

  pub fault-unknown : RowFault free falling n node class → row_known free falling n node class ≡ false
  fault-unknown f = refute _ (λ t. faulty f (known_faultless t))

  pub unknown-fault : row_known free falling n node class ≡ false → RowFault free falling n node class
  unknown-fault f =
      bcase (below n 2) (λ t. few (below-lt _ _ t))
      (λ a.
      bcase (below max_nodes n) (λ t. many (below-lt _ _ t))
      (λ b.
      bcase (same (length free) (n * n))
      (λ c.
      bcase (same (length falling) (n * n))
      (λ d.
      bcase (below node n)
      (λ e.
      bcase (below 1 class) (λ t. no-class (below-lt _ _ t))
      (λ g. no_tf (faultless_known (record {
        least = below-le _ _ a;
        most = below-le _ _ b;
        free-long = same-eq _ _ c;
        falling-long = same-eq _ _ d;
        node-low = below-lt _ _ e;
        class_low = below-le _ _ g;
      })) f))
      (λ e. no_node (below-le _ _ e)))
      (λ d. falling-size (same-ne _ _ d)))
      (λ c. free-size (same-ne _ _ c))))

  -- ---- the row

  pub row-refused : row_known free falling n node class ≡ false → row_in free falling n node class ≡ []
  unfolding row_in
  row-refused f = rw (f, row_in)

  pub row-known : row_known free falling n node class ≡ true → row_in free falling n node class ≡ take n (drop (node * n) (table_in free falling class))
  unfolding row_in
  row-known t = rw (t, row_in)

  -- the row ends within the table, and its end is a number of the machine
  pub row-end : Faultless free falling n node class → node * n + n ≤ n * n
  row-end k = let b : suc node * n ≤ n * n = mul-le-mul k.node-low (le_refl n) in omega arith

  pub table-long : Faultless free falling n node class → length (table_in free falling class) ≡ n * n
  table-long k =
      bcase (same class 0) (λ t. rw (free-table free falling class (same-eq _ _ t)) k.free-long) (λ t. rw (falling-table free falling class (same-ne _ _ t)) k.falling-long)

  pub row-length : row_known free falling n node class ≡ true → length (row_in free falling n node class) ≡ n
  row-length t =
      let k = known_faultless t in
      let a = row-end k in
      let b = table-long k in
      rw (row-known t) (simp (length-take, length-drop) (omega arith))

  -- the part of the table that holds it
  pub row-part : (table : List ℕ) → row_known free falling n node class ≡ true → table_in free falling class ≡ table
      → take (node * n + n - node * n) (drop (node * n) table) ≡ row_in free falling n node class
  row-part table t e = let d : node * n + n - node * n ≡ n = omega arith in rw (row-known t, e, d)
