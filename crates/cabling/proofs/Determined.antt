-- The promise of `fault` leaves one verdict: any two that it allows are equal.
use Rattle.refusal.specs.Verdicts.{Verdict}
use mathlib.Core.Path.{◌≡◌, sym, ◌∙◌}
use Rattle.cabling.specs.Cabling.{Cabling}
use Rattle.cabling.specs.Faults.{fault_of}

module _ (c : Cabling) (v w : Verdict) where
  pub verdict_determined : v ≡ fault_of c → w ≡ fault_of c → v ≡ w
  verdict_determined p q = p ∙ sym q
