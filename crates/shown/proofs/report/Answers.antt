-- `shown::report` meets its contract: a node's line more, and all lines.
use Rattle.std.proofs.Common.{refl, ◌∙◌, ap, rules, arith}
use Rattle.fabric.specs.declared.Fabric.{Fabric}
use Rattle.fabric.proofs.Parts.{free_part, falling-part}
use Rattle.shown.proofs.Tables.{label-made, row_made}
use Rattle.shown.proofs.Lines.{printed_begin, printed_next, printed_end}
use Rattle.shown.proofs.report.Goals as goal

pub loop-v-init : goal.loop-v-init
loop-v-init c = record { same_buffer = refl; printed = printed_begin _ c.requires.good }

pub loop-v-preserved : goal.loop-v-preserved
loop-v-preserved c =
    let k = c.loop-v-test.true in
    let g = c.requires.good in
    let e = c.requires.made in
    record {
      same_buffer = search rules;
      printed = printed_next c.loop-v.invariant.printed k (c.from.ensures ∙ c.byte.ensures ∙ label-made g (ap (λ (f : Fabric). f.labels) e) _)
          (row_made g (c.front.ensures ∙ free_part _ e) (c.front-in-loop-v.ensures ∙ falling-part _ e) k c.row-row.ensures) c.node_line.ensures.laid;
    }

pub returns-clause-laid : goal.returns-clause-laid
returns-clause-laid c = λ b p room.
    printed_end (record { line = rw p at c.fabric_line.ensures.laid; room = room }) c.loop-v.invariant.printed (omega arith)
