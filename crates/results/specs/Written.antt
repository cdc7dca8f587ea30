-- What a call that writes into a lent buffer answers, and what the buffer holds afterwards.
use Rattle.std.specs.Prelude.{◌≡◌, true, false, List, ◌++◌, ℕ, leb, length, drop, Result, Ok, Err}
use Rattle.refusal.specs.Verdicts.{Verdict}
use Rattle.refusal.specs.declared.Refusal.{Refusal}
use Rattle.refusal.specs.declared.Refusal.TheVariants.{Short}

-- how many bytes a call wrote, or the refusal
abbrev pub Written : Type 0
Written = Result ℕ Refusal

-- RULES 7.1: "Results are written at the front of a lent buffer, and the bytes behind stay."
abbrev pub placed : List ℕ → List ℕ → List ℕ
placed bytes buffer = bytes ++ drop (length bytes) buffer

-- a verdict, and then 9, RULES 9.1, "the result is longer than the buffer": the answer of a call that writes these bytes
unfoldable pub written_of : Verdict → List ℕ → ℕ → Written
written_of (Ok _) bytes room = elim (leb (length bytes) room) [ true ↦ Ok (length bytes) | false ↦ Err Short ]
written_of (Err r) bytes room = Err r

-- and the buffer afterwards, RULES 2.1: "A refused call leaves every lent buffer and record as it was."
unfoldable pub written_into : Verdict → List ℕ → List ℕ → List ℕ
written_into (Ok _) bytes buffer = elim (leb (length bytes) (length buffer)) [ true ↦ placed bytes buffer | false ↦ buffer ]
written_into (Err r) bytes buffer = buffer

-- both together: what a promise says of a call that writes
pub record Writes (verdict : Verdict) (bytes before : List ℕ) (answer : Written) (after : List ℕ) : Type 0 where
  pub answers : answer ≡ written_of verdict bytes (length before)
  pub leaves : after ≡ written_into verdict bytes before

-- a program asks for room for the longest that it may print, before it writes a byte: 9 where a buffer has no room for `most` bytes
unfoldable pub room_for : ℕ → List ℕ → Verdict
room_for most buffer = elim (leb most (length buffer)) [ true ↦ Ok tt | false ↦ Err Short ]
