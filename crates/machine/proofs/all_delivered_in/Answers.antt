-- `machine::all_delivered_in` meets its contract: the test is the library's, of each message's mark.
use Rattle.std.proofs.Common.{ℕ, Bool, get_or, refl, rules, arith, ◌∙◌}
use Rattle.std.proofs.lemmas.Iterator.{YieldsList-from_range}
use Rattle.std.proofs.lemmas.Iterator.Search.{all_from_yields_List}
use Rattle.finite.specs.Truth.{non, same}
use Rattle.finite.proofs.Ranges.{all-range}
use Rattle.machine.proofs.all_delivered_in.Goals as goal

pub returns : goal.returns
returns c =
    let p : ℕ → Bool = λ m. non (same (get_or c.args.delivered.now m 0) 0) in
    rw (← c.few.ensures) (all_from_yields_List p _ _ _ c.all.ensures.ran (YieldsList-from_range 0 _ c.few.result refl (omega arith)) (λ x b q k. (search rules, search rules)) ∙ all-range p _)
