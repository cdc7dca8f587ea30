-- Where Drain looks is one of the messages.
use Rattle.std.proofs.Common.{◌≡◌, ℕ, ◌/◌, ◌^◌, ◌<◌, ◌≤◌, mod-lt, arith}
use Rattle.finite.specs.Truth.{same}
use Rattle.finite.proofs.Truth.{bcase, same-eq, same-ne, eq-same, ne_same}
use Rattle.seeds.specs.Seed.{look_at}

pub look-low : (seed messages : ℕ) → 0 < messages → look_at seed messages < messages
unfolding look_at
look-low seed messages l = rw (ne_same {a = messages} {b = 0} (λ e. omega arith), look_at) (mod-lt (seed / 2 ^ 16) l)

pub look_none : (seed messages : ℕ) → messages ≡ 0 → look_at seed messages ≡ 0
unfolding look_at
look_none seed messages e = rw (eq-same e, look_at)

pub look-le : (seed messages : ℕ) → look_at seed messages ≤ messages
look-le seed messages =
    bcase (same messages 0) (λ t. let e = look_none seed messages (same-eq _ _ t) in omega arith)
    (λ t. let n = same-ne messages 0 t in let l = look-low seed messages (omega arith) in omega arith)
