-- What a check answers, and checks one after the other, RULES 9.2: "Where several apply, the first of these is given".
use Rattle.std.specs.Prelude.{Result, Ok, Err}
use Rattle.refusal.specs.declared.Refusal.{Refusal}

-- fine, or the first fault
abbrev pub Verdict : Type 0
Verdict = Result Unit Refusal

-- the second verdict where the first is fine
unfoldable pub and_then : Verdict → Verdict → Verdict
and_then (Ok _) w = w
and_then (Err r) w = Err r
