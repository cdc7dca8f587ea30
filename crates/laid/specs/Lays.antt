-- What is laid at the front of a buffer: what contracts of private functions cite.
use Rattle.std.specs.Prelude.{◌≡◌, List, ℕ, ◌≤◌, length}
use Rattle.std.proofs.lemmas.List.Edits.{sets}
use Rattle.laid.specs.Laid.{Page, page}

-- the buffer b with s laid at its front, and nothing else
pub record Lays (b : List ℕ) (p : Page) (s : List ℕ) : Type 0 where
  pub is : p ≡ page (sets b 0 s) (length s)
  pub fits : length s ≤ length b

-- from page p to page q this is laid: where p is a buffer with nothing laid yet, and it finds room
abbrev pub LaysFrom : Page → Page → List ℕ → Type 0
LaysFrom p q s = (b : List ℕ) → p ≡ page b 0 → length s ≤ length b → Lays b q s
