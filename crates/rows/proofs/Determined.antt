-- The promise of `tables_of` determines its answer: any two outcomes that it allows are equal.
use mathlib.Core.Path.{◌≡◌, sym, ◌∙◌}
use mathlib.Core.List.{List}
use Prim.Native.Nat.{ℕ, min}
use lib.ListN.{get_or}
use Rattle.nodes.specs.Limits.{max_nodes}
use Rattle.network.specs.Table.{edge_of}
use Rattle.rows.specs.Tables.{tables_of}
use Rattle.rows.specs.declared.Tables.{Tables}

pub tables_determined : (t labels : List ℕ) (n : ℕ) (r s : Tables) → r ≡ tables_of max_nodes (min n max_nodes) (edge_of t) (λ u. get_or labels u 0)
    → s ≡ tables_of max_nodes (min n max_nodes) (edge_of t) (λ u. get_or labels u 0) → r ≡ s
tables_determined t labels n r s p q = p ∙ sym q
