-- `sheets::print` meets its contract: a pair more, and all pairs.
use Rattle.std.proofs.Common.{sym, ◌∙◌, ap, rules}
use Rattle.std.proofs.lemmas.List.{take_rest}
use Rattle.laid.specs.Laid.{Page}
use Rattle.sheets.specs.Held.{with_links}
use Rattle.sheets.proofs.Printing.{links_next, links_end}
use Rattle.sheets.proofs.print.Goals as goal

pub loop-left-preserved : goal.loop-left-preserved
loop-left-preserved c =
    let line = c.number_line-in-len2-up.ensures.laid (λ n. n) (λ x y e. e) in
    record {
      same_buffer = search rules;
      rest = rw take_rest (links_next _ _ c.loop-left.left.now c.in-len2-up.len_at_least (rw c.from.ensures at line) ∙ c.loop-left.invariant.rest);
    }

pub returns-clause-laid : goal.returns-clause-laid
returns-clause-laid c =
    sym (links_end _ c.loop-left.left.now c.in_default.len_below) ∙ c.loop-left.invariant.rest
    ∙ ap (λ (p : Page). with_links p c.args.cabling.now.pairs.now) (c.number_line.ensures.laid (λ n. n) (λ x y e. e))
