use Rattle.std.proofs.Common.{arith}
use Rattle.vega_copies.proofs.CopyLemmas.{cell_more, cells_ended}
use Rattle.vega_copies.proofs.copies.named_cells.Goals as goal

pub loop-at-preserved : goal.loop-at-preserved
loop-at-preserved c =
    let all = c.min-at-end.ensures in
    let some = c.loop-at-test.true in
    cell_more c.args.fields.now c.args.cells.now c.loop-at.at c.index-fields-at.result c.index-cells-at.result c.loop-at.named _ _
    (grind (arith, all, some)) (grind (arith, all, some)) c.index-fields-at.is c.index-cells-at.is c.in_ok-push_cell.ensures c.loop-at.invariant

pub returns : goal.returns
returns c =
    let all = c.min-at-end.ensures in
    let over = c.loop-at-test.false in
    cells_ended c.args.fields.now c.args.cells.now c.loop-at.at c.loop-at.named _ (grind (arith, all, over)) c.loop-at.invariant
