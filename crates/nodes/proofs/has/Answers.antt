-- `nodes::has` meets its contract: the code is the definition, and past the word's digits there is no member.
use mathlib.Core.Path.{refl, sym, ◌∙◌}
use Rattle.std.proofs.lemmas.Bool.{le-ltb}
use Rattle.finite.specs.Sets.{has}
use Rattle.finite.proofs.Sets.{has_out}
use Rattle.nodes.specs.Limits.{max_nodes}
use Rattle.nodes.proofs.has.Goals as goal

pub returns-then-v-lt-MAX_NODES : goal.returns-then-v-lt-MAX_NODES
unfolding has
returns-then-v-lt-MAX_NODES c = refl

pub returns-else-v-lt-MAX_NODES : goal.returns-else-v-lt-MAX_NODES
returns-else-v-lt-MAX_NODES c =
    let l = c.if-v-lt-MAX_NODES.false in
    le-ltb _ _ l ∙ sym (has_out c.args.w max_nodes c.args.v c.ranges.w.fits l)
