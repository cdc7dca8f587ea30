-- What the contracts of private functions cite: the pairs that are held of a sheet, and its lines as they are laid.
use Rattle.std.specs.Prelude.{◌≡◌, List, [], ◌∷◌, ℕ, length, take, Ok}
use Rattle.refusal.specs.Verdicts.{Verdict}
use Rattle.cabling.specs.Cabling.{Cabling}
use Rattle.laid.specs.Laid.{Page}
use Rattle.text.specs.Text.{decimal_of}
use Rattle.lines.specs.Lines.{with_line}
use Rattle.sheets.specs.Sheet.{pairs_on}
use Rattle.sheets.specs.Faults.{link_lines_fault}

-- the verdict on the lines of links, and the pairs that they tell, as many as the buffer holds
pub record Holds (ls : List (List ℕ)) (before : List ℕ) (verdict : Verdict) (held : Page) : Type 0 where
  pub answers : verdict ≡ link_lines_fault 1 ls
  pub pairs : verdict ≡ Ok tt → take held.at held.bytes ≡ take (length before) (pairs_on ls)

-- what is laid with the lines of links behind it, and with a whole sheet
unfoldable pub with_links : Page → List ℕ → Page
with_links p [] = p
with_links p (a ∷ []) = p
with_links p (a ∷ b ∷ pairs) = with_links (with_line p (decimal_of a) (b ∷ [])) pairs

abbrev pub with_sheet : Page → Cabling → Page
with_sheet p c = with_links (with_line p (decimal_of c.nodes) []) c.pairs
