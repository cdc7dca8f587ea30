-- The reader of an image's contents: where it stands, and what a step answers and leaves.
use Rattle.std.specs.Prelude.{Option, Some, None, List, ℕ, suc}
use Rattle.std.specs.Borrow.{Bor}
use Rattle.format.specs.declared.Entry.{Entry}
use Rattle.format.specs.Contents.{entry_of}
use Rattle.contents.specs.declared.Reader.{Reader}
use Rattle.contents.specs.declared.Found.{Found}

-- RULES 6.3: "A step answers that entry's [..] and goes on by one. Where [..], it answers none and stays."
abbrev pub next_after : Option Entry → ℕ → ℕ
next_after (Some entry) i = suc i
next_after None i = i

abbrev pub found_at : List ℕ → ℕ → Found
found_at b i = record { entry = entry_of b i; next = next_after (entry_of b i) i }

-- RULES 6.3: "a reader that keeps the caller's image and the number of the next entry"
abbrev pub standing : Bor (List ℕ) → ℕ → Reader
standing image i = record { image = image; next = i }

-- the answer of a step, and the reader afterwards
abbrev pub step_from : Reader → Option Entry × Reader
step_from r = let found : Found = found_at r.image.now r.next in (found.entry, standing r.image found.next)
