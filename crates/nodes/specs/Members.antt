-- What a node set holds.
use Rattle.std.specs.Prelude.{ℕ}

-- RULES 3.2: "one 64-bit word, whose bit v is node v": the members of a set as one number, of which node v is one where binary digit v is 1. A set of one
-- word is that number.
abbrev pub members : ℕ → ℕ
members w = w

-- the set with these members
abbrev pub set_with : ℕ → ℕ
set_with s = s
