-- The record that a fresh start fills, from its parts.
use mathlib.Core.Path.{◌≡◌, ◌∙◌, ap}
use mathlib.Core.List.{List}
use Prim.Native.Nat.{ℕ, ◌+◌, ◌*◌, ◌/◌, min}
use native.Mathlib.Nat.{add-zero}
use lib.ListN.{length, get_or}
use Rattle.finite.specs.Lists.{tabulate}
use Rattle.finite.proofs.Lists.{tabulate_cong}
use Rattle.messages.specs.Sizes.{max_messages, max_channels}
use Rattle.messages.specs.Channels.{injection}
use Rattle.messages.specs.Fresh.{source_in, zeros, begun_of}

pub begun-parts : (n : ℕ) (labels free falling list : List ℕ) {messages : ℕ} {targets heads classes wants delivered holders : List ℕ}
    → messages ≡ min (length list / 2) max_messages → targets ≡ tabulate max_messages (λ m. get_or list (2 * m + 1) 0)
    → heads ≡ tabulate max_messages (λ m. get_or list (2 * m + 0) 0) → classes ≡ zeros max_messages
    → wants ≡ tabulate max_messages (λ m. injection (source_in list m)) → delivered ≡ zeros max_messages → holders ≡ zeros max_channels
    → record {
      nodes = n;
      messages = messages;
      moves = 0;
      labels = labels;
      free = free;
      falling = falling;
      targets = targets;
      heads = heads;
      classes = classes;
      wants = wants;
      delivered = delivered;
      holders = holders;
    } ≡ begun_of n labels free falling list
unfolding begun_of
begun-parts n labels free falling list a b c d w e f =
    let h = c ∙ tabulate_cong max_messages _ (source_in list) (λ m l. ap (λ (i : ℕ). get_or list i 0) (add-zero _)) in cc
