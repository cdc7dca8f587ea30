-- Any two outcomes that a promise allows are equal: the answer, and the record afterwards.
use Rattle.refusal.specs.Verdicts.{Verdict}
use mathlib.Core.Path.{◌≡◌, ap}
use mathlib.Core.List.{List}
use Prim.Native.Nat.{ℕ}
use Rattle.messages.specs.declared.Record.{Record}
use Rattle.messages.specs.declared.Stepped.{Stepped}
use Rattle.messages.specs.Step.{MoveAnswer, with, step_of}
use Rattle.records.proofs.Determined.{step_determined}
use Rattle.start.specs.declared.Started.{Started}
use Rattle.start.specs.Start.{beside, start_of}
use Rattle.start.proofs.Determined as by_value

pub advance_determined : (old : Record) (m : ℕ) (a a' : MoveAnswer) (r r' : Record) → with r a ≡ step_of old m → with r' a' ≡ step_of old m → (a ≡ a') × (r ≡ r')
advance_determined old m a a' r r' = step_determined old m (with r a) (with r' a')

pub moved_determined : (old : Record) (m : ℕ) (x y : Stepped) → x ≡ step_of old m → y ≡ step_of old m → (x.answer ≡ y.answer) × (x.«record» ≡ y.«record»)
moved_determined = step_determined

pub start_determined : (old : Record) (b list : List ℕ) (v v' : Verdict) (r r' : Record) → beside v r ≡ start_of old b list → beside v' r' ≡ start_of old b list → (v ≡ v') × (r ≡ r')
start_determined old b list v v' r r' e f =
    let same = by_value.start_determined old b list (beside v r) (beside v' r') e f in
    (ap (λ (s : Started). s.verdict) same, ap (λ (s : Started). s.«record») same)

pub started_determined : (old : Record) (b list : List ℕ) (x y : Started) → x ≡ start_of old b list → y ≡ start_of old b list → x ≡ y
started_determined = by_value.start_determined
