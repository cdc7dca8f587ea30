-- RULES 10.4: "Drain takes an image's length (16 bits, low byte first), the image, a seed of 32 bits (low byte first) and pairs."
use Rattle.std.specs.Prelude.{true, false, List, [], ◌∷◌, ℕ, ◌+◌, ◌*◌, leb, length, take, drop, Err}
use Rattle.refusal.specs.Verdicts.{Verdict}
use Rattle.refusal.specs.declared.Refusal.TheVariants.{Contents}
use Rattle.format.specs.Limits.{half_word}
use Rattle.format.specs.Contents.{number_at}
use Rattle.lines.specs.Lines.{line_of, or_refused}
use Rattle.messages.specs.declared.Record.{Record}
use Rattle.start.specs.Start.{start_fault}
use Rattle.draining.specs.Drained.{end_of}

-- where the image ends, behind the two bytes of its length
abbrev pub image_end : List ℕ → ℕ
image_end input = 2 + number_at input 0

abbrev pub image_in : List ℕ → List ℕ
image_in input = take (number_at input 0) (drop 2 input)

abbrev pub seed_in : List ℕ → ℕ
seed_in input = number_at input (image_end input) + half_word * number_at input (image_end input + 2)

abbrev pub list_in : List ℕ → List ℕ
list_in input = drop (image_end input + 4) input

-- RULES 10.4: "Input too short for length, image or seed is refusal 1."; then start's
unfoldable pub input_fault : List ℕ → Verdict
input_fault input =
    elim (leb (image_end input + 4) (length input)) [ true ↦ start_fault (image_in input) (list_in input) | false ↦ Err Contents ]

-- the word `drained`
abbrev pub drained_word : List ℕ
drained_word = 100 ∷ 114 ∷ 97 ∷ 105 ∷ 110 ∷ 101 ∷ 100 ∷ []

-- RULES 10.4: "It prints `drained`, the number of messages, the number of successful moves."
abbrev pub drained_line : Record → List ℕ
drained_line r = line_of drained_word (r.messages ∷ r.moves ∷ [])

-- no longer than this: the word, two fields of a space and at most 21 digits, and the line feed
abbrev pub longest_drain : ℕ
longest_drain = 7 + 2 * (1 + 21) + 1

-- the record at the end of the drain that an input asks for
abbrev pub end_in : List ℕ → Record
end_in input = end_of (image_in input) (list_in input) (seed_in input)

unfoldable pub output_of : List ℕ → List ℕ
output_of input = or_refused (input_fault input) (drained_line (end_in input))
