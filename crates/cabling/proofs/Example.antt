-- One link between two nodes is a good cabling.
use mathlib.Core.Path.{refl}
use mathlib.Core.List.{[], ◌∷◌}
use Rattle.finite.specs.Truth.{◌&◌, ◌or◌, non, same, below}
use Rattle.finite.specs.Sum.{sum_to}
use Rattle.finite.specs.Search.{least, any}
use Rattle.finite.specs.Sets.{has, set_of}
use Rattle.graph.specs.Reach.{grow, spread, reach}
use Rattle.network.specs.Table.{joins, linked_by, linked}
use Rattle.cabling.specs.Cabling.{cabled, Good}
use Rattle.cabling.specs.Faults.{is_counted, is_shaped, bad_ends, is_above, not_above, bad_pair, crowded, unreached, node_fault, link_fault, fault_of}
use Rattle.cabling.proofs.Meaning.{fault-fine}

pub link-good : Good (cabled 2 (0 ∷ 1 ∷ []))
unfolding fault_of link_fault node_fault unreached crowded bad_pair not_above is_above bad_ends is_shaped is_counted
    linked linked_by joins reach spread grow has set_of least any sum_to ◌&◌ ◌or◌ non same below
link-good = (fault-fine _).0 refl
