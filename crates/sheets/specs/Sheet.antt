-- RULES 6.5: "A sheet is a cabling as text." What is printed of a cabling, and how the cabling is found that a text tells.
use Rattle.std.specs.Prelude.{◌≡◌, List, [], ◌∷◌, ◌++◌, ℕ, ◌+◌, ◌*◌, ◌%◌, length, get_or, drop}
use Rattle.nodes.specs.Limits.{max_links}
use Rattle.cabling.specs.Cabling.{Cabling, cabled}
use Rattle.format.specs.Bytes.{AllBytes}
use Rattle.text.specs.Text.{number_in}
use Rattle.read_lines.specs.Lines.{lines_of}
use Rattle.read_lines.specs.Numbers.{numbers_line, numbers_in}

-- RULES 6.5: "a line for each link, in the order of the pairs: a and b, one space apart"
unfoldable pub link_lines : List ℕ → List ℕ
link_lines [] = []
link_lines (a ∷ []) = []
link_lines (a ∷ b ∷ pairs) = numbers_line (a ∷ b ∷ []) ++ link_lines pairs

-- RULES 6.5: "Its first line is N."
unfoldable pub sheet_of : Cabling → List ℕ
sheet_of c = numbers_line (c.nodes ∷ []) ++ link_lines c.pairs

-- what lines can tell, whether it is a good cabling or not: whole pairs, and no number above 255
pub record Tellable (c : Cabling) : Type 0 where
  pub even : length c.pairs % 2 ≡ 0
  pub byte : AllBytes (c.nodes ∷ c.pairs)

-- the digits of N at the most
abbrev pub node_digits : ℕ
node_digits = 2

-- RULES 6.5: "A sheet has at most 3,075 bytes.": a line of N, and for each link one of two numbers
abbrev pub longest_sheet : ℕ
longest_sheet = node_digits + 1 + max_links * (node_digits + 1 + node_digits + 1)

-- ---- the other way round: the numbers of the lines, as well as they can be read

unfoldable pub pairs_on : List (List ℕ) → List ℕ
pairs_on [] = []
pairs_on (l ∷ ls) = numbers_in 2 l ++ pairs_on ls

-- the cabling that a text tells, if it is a sheet
unfoldable pub cabling_on : List ℕ → Cabling
cabling_on s = cabled (number_in (get_or (lines_of s) 0 [])) (pairs_on (drop 1 (lines_of s)))
