-- What a drain prints is the same for every seed: the messages, and the sum of (shortest lawful hops + 3); `drained 0 0` where there is no message.
use Rattle.std.specs.Prelude.{Ok}
use Rattle.refusal.specs.Verdicts.{Verdict}
use mathlib.Core.Path.{◌≡◌, ◌∙◌, ap, ap₂}
use mathlib.Core.List.{List, [], ◌∷◌}
use Prim.Native.Nat.{ℕ, ◌+◌, ◌≤◌}
use lib.ListN.{length}
use Rattle.finite.specs.Sum.{sum_to}
use Rattle.lines.specs.Lines.{line_of, or_refused}
use Rattle.messages.specs.Runs.{messages_in, all_moves}
use Rattle.start.specs.Start.{start_fault}
use Rattle.draining.specs.Drained.{sum_of}
use Rattle.draining.proofs.Meaning.{end-messages, end-moves}
use Rattle.drained.specs.Drains.{image_end, image_in, seed_in, list_in, drained_word, drained_line, end_in, output_of}
use Rattle.drained.proofs.Cases.{fault-start}

module _ (input : List ℕ) (whole : image_end input + 4 ≤ length input) (fine : start_fault (image_in input) (list_in input) ≡ Ok tt) where
  pub prints : output_of input ≡ line_of drained_word (messages_in (list_in input) ∷ sum_of (image_in input) (list_in input) ∷ [])
  unfolding output_of or_refused
  prints =
      ap (λ (v : Verdict). or_refused v (drained_line (end_in input))) (fault-start input whole ∙ fine)
      ∙ ap₂ (λ (m k : ℕ). line_of drained_word (m ∷ k ∷ [])) (end-messages (image_in input) (list_in input) fine (seed_in input)) (end-moves (image_in input) (list_in input) fine (seed_in input))

  -- RULES 11.2: "No messages: `drained 0 0`."
  pub prints-none : list_in input ≡ [] → output_of input ≡ line_of drained_word (0 ∷ 0 ∷ [])
  unfolding messages_in all_moves sum_to
  prints-none e = prints ∙ ap (λ (l : List ℕ). line_of drained_word (messages_in l ∷ sum_of (image_in input) l ∷ [])) e
