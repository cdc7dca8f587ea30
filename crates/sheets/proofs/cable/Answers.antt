-- `sheets::cable` meets its contract: the first line, the lines of links, and the links image of what they tell.
use Rattle.std.proofs.Common.{refl, sym, ◌∙◌, rules}
use lib.Dec.{lit≤}
use Rattle.results.proofs.Placed.{fault-writes, err-writes}
use Rattle.sheets.proofs.Cases.{cable_none, cable_bad, cable_writes}
use Rattle.sheets.proofs.cable.Goals as goal

pub returns-in_default : goal.returns-in_default
returns-in_default c = fault-writes (cable_none _ (sym c.in_default.is ∙ c.one.ensures))

pub returns-in_err-read : goal.returns-in_err-read
returns-in_err-read c =
    err-writes (cable_bad _ c.in-Some.ensures c.rest.ensures (c.read.ensures.holds _ c.new-pairs.ensures.blank refl) c.in_err-read.was) (search rules)

pub returns : goal.returns
returns c =
    cable_writes _ c.in-Some.ensures c.rest.ensures (c.read.ensures.holds _ c.new-pairs.ensures.blank refl) c.in_ok-read.was (lit≤ tt)
    c.laid.ensures c.write.ensures
