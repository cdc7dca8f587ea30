-- `cabling::lowest_crowded` meets its contract: the search is that of the library.
use Rattle.std.proofs.Common.{◌≡◌, ℕ, ◌<◌, ◌≤◌, Bool, true, false, rules, tests}
use Rattle.std.proofs.lemmas.Iterator.{first_from_Range}
use Rattle.finite.specs.Sum.{count}
use Rattle.finite.proofs.Decide.{pass, fail}
use Rattle.finite.proofs.Lowest.{match-lowest}
use Rattle.nodes.specs.Limits.{max_nodes, max_degree}
use Rattle.network.specs.Table.{edge_of}
use Rattle.cabling.specs.Faults.{crowded}
use Rattle.cabling.proofs.Tests.{decide_crowded}
use Rattle.cabling.proofs.lowest_crowded.Goals as goal

pub returns : goal.returns
returns c =
    let edge : ℕ → ℕ → Bool = edge_of c.args.t.now in
    let p : ℕ → Bool = crowded max_nodes edge in
    match-lowest c.args.n p _ (first_from_Range _ _ _ _ (λ v. p v ≡ true) (λ v. p v ≡ false) c.find.ensures.ran
    (λ v q k. let l : max_degree < count max_nodes (edge v) = search (rules, tests) in pass (decide_crowded _ _ _) l)
    (λ v q k. (search rules, let l : count max_nodes (edge v) ≤ max_degree = search (rules, tests) in fail (decide_crowded _ _ _) l)))
