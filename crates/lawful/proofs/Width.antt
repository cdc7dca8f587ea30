-- Entries do not depend on the width that they are computed at, if it has room for the nodes.
use mathlib.Core.Path.{◌≡◌, sym, ◌∙◌}
use mathlib.Core.Bool.{Bool}
use mathlib.Core.Logic.{⊎_elim}
use Prim.Native.Nat.{ℕ, ◌<◌}
use Rattle.finite.specs.Truth.{same}
use Rattle.finite.proofs.Truth.{bcase, same-eq, same-ne}
use Rattle.graph.specs.Network.{Network}
use Rattle.lawful.specs.Turn.{Distinct}
use Rattle.lawful.specs.Entry.{entry}
use Rattle.lawful.proofs.Entries.{begins_unique, entry-self, entry-begins, entry-none}
use Rattle.lawful.proofs.Routes.{way_or_none}

module _ (n k : ℕ) (edge : ℕ → ℕ → Bool) (label : ℕ → ℕ) (wide : Network n edge) (broad : Network k edge) (distinct : Distinct edge label) where
  pub entry_width : (t : ℕ) (c : Bool) (v : ℕ) → v < n → t < n → t < k → entry n edge label t c v ≡ entry k edge label t c v
  entry_width t c v a b d =
      bcase (same v t) (λ e. rw (same-eq v t e) (entry-self n edge label t c ∙ sym (entry-self k edge label t c)))
      (λ e.
      let other = same-ne v t e in
      ⊎_elim
      (λ w.
      begins_unique (entry-begins n edge label wide distinct c v t w.0 b other w.1).0
      (entry-begins k edge label broad distinct c v t w.0 d other w.1).0)
      (λ no. entry-none n edge label wide distinct c v t other no ∙ sym (entry-none k edge label broad distinct c v t other no))
      (way_or_none n edge label wide distinct c v t a b))
