-- Each promise determines its answer: two outcomes that it allows are equal.
use mathlib.Core.Path.{◌≡◌, sym, ◌∙◌}
use mathlib.Core.List.{List}
use Rattle.std.proofs.Common.{Option}
use Prim.Native.Nat.{ℕ}
use Rattle.format.specs.Contents.{number_at, entry_of, nodes_in, zero_in, pairs_in}
use Rattle.format.specs.Bytes.{entry_bytes, body_at}
use Rattle.format.specs.declared.Entry.{Entry}

module _ (b : List ℕ) where
  pub entry_determined : (i : ℕ) (r s : Option Entry) → r ≡ entry_of b i → s ≡ entry_of b i → r ≡ s
  entry_determined i r s p q = p ∙ sym q

  pub nodes_determined : (r s : ℕ) → r ≡ nodes_in b → s ≡ nodes_in b → r ≡ s
  nodes_determined r s p q = p ∙ sym q

  pub zero_determined : (r s : ℕ) → r ≡ zero_in b → s ≡ zero_in b → r ≡ s
  zero_determined r s p q = p ∙ sym q

  pub pairs_determined : (r s : List ℕ) → r ≡ pairs_in b → s ≡ pairs_in b → r ≡ s
  pairs_determined r s p q = p ∙ sym q

  pub number_determined : (i r s : ℕ) → r ≡ number_at b i → s ≡ number_at b i → r ≡ s
  number_determined i r s p q = p ∙ sym q

  pub body_determined : (i : ℕ) (r s : List ℕ) → r ≡ body_at b i → s ≡ body_at b i → r ≡ s
  body_determined i r s p q = p ∙ sym q

pub entry-bytes_determined : (kind offset size : ℕ) (r s : List ℕ) → r ≡ entry_bytes kind offset size → s ≡ entry_bytes kind offset size → r ≡ s
entry-bytes_determined kind offset size r s p q = p ∙ sym q
