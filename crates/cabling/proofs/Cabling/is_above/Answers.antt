-- `cabling::Cabling::is_above` meets its contract: pairs are compared as the library compares them, by the first ends, and where these are equal, by the second.
use Rattle.std.proofs.Common.{nat_lt, ◌==◌}
use mathlib.Core.Path.{refl, ◌∙◌}
use Rattle.finite.specs.Truth.{◌&◌, ◌or◌, same, below}
use Rattle.finite.proofs.Truth.{bcase}
use Rattle.cabling.specs.Cabling.{low_end, high_end}
use Rattle.cabling.specs.Faults.{is_above}
use Rattle.cabling.proofs.Cabling.is_above.Goals as goal

pub returns : goal.returns
unfolding is_above below same ◌or◌ ◌&◌
returns c =
    let s = c.args.self.now.pairs.now in
    c.lt.ensures
    ∙ rw (c.low_end.ensures, c.high_end.ensures, c.low_end-2.ensures, c.high_end-2.ensures)
    (bcase (nat_lt (low_end s c.args.p) (low_end s c.args.q)) (λ t. rw t refl)
    (λ f.
    bcase (low_end s c.args.p == low_end s c.args.q) (λ e. bcase (nat_lt (high_end s c.args.p) (high_end s c.args.q)) (λ t. rw (f, e, t) refl) (λ g. bcase (high_end s c.args.p == high_end s c.args.q) (λ k. rw (f, e, g, k) refl) (λ k. rw (f, e, g, k) refl)))
    (λ e. rw (f, e) refl)))
