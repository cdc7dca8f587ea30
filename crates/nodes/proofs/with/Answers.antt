-- `nodes::with` meets its contract: the word joined with the set of v alone.
use mathlib.Core.Path.{◌∙◌, ap}
use lib.Bits.{bit_or}
use Rattle.finite.specs.Truth.{same}
use Rattle.nodes.specs.Limits.{max_nodes}
use Rattle.nodes.proofs.Words.{or_set_of}
use Rattle.nodes.proofs.with.Goals as goal

pub returns : goal.returns
returns c =
    let a = c.args in
    ap (bit_or a.w) c.one.ensures ∙ or_set_of max_nodes a.w (same a.v) c.ranges.w.fits
