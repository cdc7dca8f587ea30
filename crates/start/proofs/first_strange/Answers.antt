-- `start::first_strange` meets its contract: the search is that of the library.
use Rattle.std.proofs.Common.{◌≡◌, ℕ, Bool, true, false, rules}
use Rattle.std.proofs.lemmas.Iterator.{first_from_Range}
use Rattle.finite.proofs.Lowest.{match-lowest}
use Rattle.start.specs.Start.{strange}
use Rattle.start.proofs.first_strange.Goals as goal

pub returns : goal.returns
returns c =
    let p : ℕ → Bool = strange c.args.n c.args.list.now in
    match-lowest _ p _ (first_from_Range _ _ _ _ (λ v. p v ≡ true) (λ v. p v ≡ false) c.find.ensures.ran
    (λ v q k. search rules)
    (λ v q k. (search rules, search rules)))
