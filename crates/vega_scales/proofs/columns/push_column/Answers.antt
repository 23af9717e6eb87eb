use Rattle.std.proofs.Common.{arith, map}
use Rattle.vega_scales.proofs.ColumnLemmas.{small_id, within, same_row, past_all, column_more, column_all}
use Rattle.vega_scales.proofs.columns.push_column.Goals as goal

pub cell_of-requires : goal.cell_of-requires
cell_of-requires c = small_id c.args.rows.now c.loop-row.row-index c.row-item.result c.requires c.loop-row-test.true c.row-item.is

pub loop-row-preserved : goal.loop-row-preserved
loop-row-preserved c =
    column_more c.args.name.now (map (λ row. row.now) c.args.rows.now) c.loop-row.row-index _ c.in_ok-cell_of.field-0 c.loop-row.out _ _
    (within c.args.rows.now c.loop-row.row-index c.loop-row-test.true)
    (same_row c.args.rows.now c.loop-row.row-index c.row-item.result c.loop-row-test.true c.row-item.is)
    c.in_ok-cell_of.ensures c.in_ok-push.ensures.ok c.loop-row.invariant

pub returns : goal.returns
returns c =
    column_all c.args.name.now (map (λ row. row.now) c.args.rows.now) c.loop-row.row-index c.loop-row.out _
    (past_all c.args.rows.now c.loop-row.row-index (omega arith)) c.loop-row.invariant
