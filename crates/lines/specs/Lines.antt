-- RULES 10.1: "Fields of a printed line are one space apart, and a line feed ends it."
use Rattle.std.specs.Prelude.{◌≡◌, List, [], ◌∷◌, ◌++◌, ℕ, ◌+◌, ◌*◌, Err, Ok}
use Rattle.refusal.specs.Verdicts.{Verdict}
use Rattle.laid.specs.Laid.{Page, behind}
use Rattle.refusal.specs.declared.Refusal.{Refusal}
use Rattle.refusal.specs.Number.{number_of, place_of}
use Rattle.results.specs.Written.{Writes, room_for, Written}
use Rattle.text.specs.Text.{decimal_of}

-- a number as a further field: a space before it
abbrev pub field_of : ℕ → List ℕ
field_of n = 32 ∷ decimal_of n

-- numbers as further fields
unfoldable pub fields_of : List ℕ → List ℕ
fields_of [] = []
fields_of (n ∷ ns) = field_of n ++ fields_of ns

-- a line that begins with a word or number, has these numbers behind it, and is closed by a line feed
abbrev pub line_of : List ℕ → List ℕ → List ℕ
line_of first numbers = (first ++ fields_of numbers) ++ (10 ∷ [])

-- what is laid with a field, with fields one by one and with a line behind it; a piece that finds no room is left out
abbrev pub with_field : Page → ℕ → Page
with_field p n = behind (behind p (32 ∷ [])) (decimal_of n)

unfoldable pub with_fields : Page → List ℕ → Page
with_fields p [] = p
with_fields p (n ∷ ns) = with_fields (with_field p n) ns

abbrev pub with_rest : Page → List ℕ → Page
with_rest p numbers = behind (with_fields p numbers) (10 ∷ [])

-- numbers of a type whose conversions are these are converted to n of them
abbrev pub ConvertsBy : {T : Type 0} → (T → ℕ → Type 0) → (T → ℕ) → Type 0
ConvertsBy {T} converts n = (x : T) (y : ℕ) → converts x y → y ≡ n x

unfoldable pub with_line : Page → List ℕ → List ℕ → Page
with_line p first numbers = with_rest (behind p first) numbers

-- the word `refused`
abbrev pub refused_word : List ℕ
refused_word = 114 ∷ 101 ∷ 102 ∷ 117 ∷ 115 ∷ 101 ∷ 100 ∷ []

-- RULES 10.1: "`refused`, number, place"
unfoldable pub refusal_line : Refusal → List ℕ
refusal_line r = line_of refused_word (number_of r ∷ place_of r ∷ [])

-- no longer than this: the word, two fields of a space and at most 21 digits, and the line feed
abbrev pub longest_refusal : ℕ
longest_refusal = 7 + 2 * (1 + 21) + 1

-- what a call wrote stays, and of a refusal its line is written: what becomes of the buffer, and the answer
abbrev pub Told : Written → List ℕ → Written → List ℕ → Type 0
Told (Ok m) before answer after = (answer ≡ Ok m) × (after ≡ before)
Told (Err r) before answer after = Writes (room_for longest_refusal before) (refusal_line r) before answer after

-- RULES 10.1: "On a refusal it prints only `refused`, number, place.": these bytes, or the line of the refusal
unfoldable pub or_refused : Verdict → List ℕ → List ℕ
or_refused (Ok _) bytes = bytes
or_refused (Err r) bytes = refusal_line r
