-- Lines of numbers, RULES 6.5: "one space apart"; "Numbers are decimal without leading zeros"; "Each line is closed by a line feed".
use Rattle.std.specs.Prelude.{◌≡◌, Bool, true, false, List, [], ◌∷◌, ℕ, zero, suc, Option, Some, None, length, take, drop}
use Rattle.finite.specs.Truth.{◌&◌, below}
use Rattle.finite.specs.Lists.{alike}
use Rattle.text.specs.Text.{decimal_of, number_in}
use Rattle.lines.specs.Lines.{line_of}
use Rattle.read_lines.specs.declared.FirstLine.{FirstLine}

-- the line of these numbers
abbrev pub numbers_line : List ℕ → List ℕ
numbers_line [] = 10 ∷ []
numbers_line (n ∷ ns) = line_of (decimal_of n) ns

-- RULES 9.1: "a number above 255" is on no line
unfoldable pub are_bytes : List ℕ → Bool
are_bytes [] = true
are_bytes (n ∷ ns) = below n 256 & are_bytes ns

-- in words: a line of k numbers, whichever they are
abbrev pub IsLine : ℕ → List ℕ → Type 0
IsLine k l = (ns : List ℕ) × (length ns ≡ k) × (are_bytes ns ≡ true) × (l ≡ numbers_line ns)

-- the k numbers that a text begins with, if it begins with a line of k numbers: between two of them stands one byte
unfoldable pub numbers_in : ℕ → List ℕ → List ℕ
numbers_in zero s = []
numbers_in (suc k) s = number_in s ∷ numbers_in k (drop (suc (length (decimal_of (number_in s)))) s)

-- so a text is such a line exactly when these numbers are bytes and print it
unfoldable pub is_line : ℕ → List ℕ → Bool
is_line k l = are_bytes (numbers_in k l) & alike l (numbers_line (numbers_in k l))

-- a text begins with a line, and the numbers on it are bytes
unfoldable pub begins : List ℕ → List ℕ → List ℕ → Bool
begins ns l s = are_bytes ns & alike (take (length l) s) l

-- the line of the k numbers that a text begins with, if it begins with a line of k numbers
abbrev pub front_line : ℕ → List ℕ → List ℕ
front_line k s = numbers_line (numbers_in k s)

-- a line that is found at the front of a text, and two of its numbers
abbrev pub found_where : Bool → List ℕ → ℕ → ℕ → Option FirstLine
found_where b l m n = elim b [ true ↦ Some (record { size = length l; first = m; second = n }) | false ↦ None ]

unfoldable pub found_of : ℕ → ℕ → List ℕ → List ℕ → Option FirstLine
found_of m n l s = found_where (begins (m ∷ n ∷ []) l s) l m n

-- what `one` and `two` answer: the line of one or of two numbers that a text begins with, if there is one
unfoldable pub one_in : List ℕ → Option FirstLine
one_in s = found_where (begins (numbers_in 1 s) (front_line 1 s) s) (front_line 1 s) (number_in s) 0

unfoldable pub two_in : List ℕ → Option FirstLine
two_in s = found_where (begins (numbers_in 2 s) (front_line 2 s) s) (front_line 2 s) (number_in s) (number_in (drop (suc (length (decimal_of (number_in s)))) s))
