-- What drain prints, case by case.
use Rattle.std.specs.Prelude.{Err, Ok}
use mathlib.Core.Path.{◌≡◌, ◌∙◌, ap}
use mathlib.Core.List.{List}
use Prim.Native.Nat.{ℕ, ◌+◌, ◌*◌, ◌-◌, ◌≤◌, ◌<◌}
use native.Mathlib.Nat.{le_refl}
use native.Mathlib.Omega.{arith}
use lib.Dec.{lit≤}
use lib.ListN.{length, take, drop}
use borrow.Author.Tests.{le-leb, lt-leb}
use Rattle.finite.proofs.Slices.{part-rest}
use Rattle.refusal.specs.declared.Refusal.TheVariants.{Contents}
use Rattle.laid.specs.Laid.{Page}
use Rattle.laid.specs.Lays.{Lays}
use Rattle.results.proofs.Placed.{fine-writes, lays-writes}
use Rattle.results.specs.Written.{Writes, room_for, Written}
use Rattle.format.specs.Limits.{half_word}
use Rattle.format.specs.Contents.{number_at}
use Rattle.lines.specs.Lines.{Told}
use Rattle.lines.proofs.Whole.{line-bound}
use Rattle.lines.proofs.Printed.{call_prints}
use Rattle.messages.specs.declared.Record.{Record}
use Rattle.start.specs.Start.{start_fault}
use Rattle.draining.specs.declared.Drained.{Drained}
use Rattle.draining.specs.Drained.{drain_of}
use Rattle.drained.specs.Drains.{image_end, image_in, seed_in, list_in, input_fault, drained_word, drained_line, end_in, longest_drain, output_of}

module _ (input : List ℕ) where
  pub fault-short : length input < image_end input + 4 → input_fault input ≡ Err Contents
  unfolding input_fault
  fault-short l = rw (lt-leb _ _ l, input_fault)

  pub fault-start : image_end input + 4 ≤ length input → input_fault input ≡ start_fault (image_in input) (list_in input)
  unfolding input_fault
  fault-start whole = rw (le-leb _ _ whole, input_fault)

  pub drain-writes : {before : List ℕ} {p : Page} {r : Record} → input_fault input ≡ Ok tt → r ≡ end_in input → Lays before p (drained_line r)
      → Writes (input_fault input) (drained_line (end_in input)) before (Ok p.at) p.bytes
  drain-writes fine e l = fine-writes fine (ap drained_line e) (lays-writes l)

  pub drain_prints : {before after last : List ℕ} {x answer : Written} → longest_drain ≤ length before
      → Writes (input_fault input) (drained_line (end_in input)) before x after → Told x after answer last → Writes (room_for longest_drain before) (output_of input) before answer last
  unfolding output_of
  drain_prints {x = x} room w t = call_prints (drained_line (end_in input)) x room (lit≤ tt) (λ e. line-bound drained_word _) w t

-- a drain of the parts of the input
pub parts_drained : (input : List ℕ) (old : Record) {x : Drained} {n seed : ℕ} → n ≡ number_at input 0
    → seed ≡ number_at input (2 + n) + half_word * number_at input (2 + n + 2)
    → x ≡ drain_of old (take (2 + n - 2) (drop 2 input)) (take (length input - (2 + n + 4)) (drop (2 + n + 4) input)) seed
    → x ≡ drain_of old (image_in input) (list_in input) (seed_in input)
parts_drained input old {n = n} {seed = seed} h s e =
    let a : take (2 + n - 2) (drop 2 input) ≡ image_in input = let z : 2 + n - 2 ≡ number_at input 0 = omega arith in ap (λ (k : ℕ). take k (drop 2 input)) z in
    let b : take (length input - (2 + n + 4)) (drop (2 + n + 4) input) ≡ list_in input =
    part-rest input (2 + n + 4) _ (le_refl _) ∙ ap (λ (k : ℕ). drop (2 + k + 4) input) h in
    let c : seed ≡ seed_in input = s ∙ ap (λ (k : ℕ). number_at input (2 + k) + half_word * number_at input (2 + k + 2)) h in
    cc
