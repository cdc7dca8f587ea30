-- RULES 10.4: the seed of Drain, and where it says to look.
use Rattle.std.specs.Prelude.{ℕ, ◌+◌, ◌*◌, ◌/◌, ◌%◌, ◌^◌, true, false}
use Rattle.finite.specs.Truth.{same}

-- RULES 10.4: "the seed becomes 1664525 times itself plus 1013904223, wrapping at 32 bits"
abbrev pub next_seed : ℕ → ℕ
next_seed s = (1664525 * s + 1013904223) % 2 ^ 32

-- RULES 10.4: "Its upper 16 bits, modulo the number of messages, say where to look"; 0 where there is none to look at
unfoldable pub look_at : ℕ → ℕ → ℕ
look_at s messages = elim (same messages 0) [ true ↦ 0 | false ↦ s / 2 ^ 16 % messages ]
