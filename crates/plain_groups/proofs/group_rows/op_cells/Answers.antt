use Rattle.std.proofs.Common.{◌∙◌, ap, sym, Some}
use Rattle.cell_value.specs.Datum.{cell_at}
use Rattle.expr_eval.proofs.Several.{stops_all, all_more}
use Rattle.plain_groups.specs.GroupRows.{op_cell}
use Rattle.plain_groups.specs.inner.Places.{rows_at}
use Rattle.plain_groups.proofs.group_rows.op_cells.Goals as goal

pub returns-in-Err : goal.returns-in-Err
returns-in-Err c =
    stops_all (op_cell cell_at (rows_at c.args.rows.now c.args.places.now)) c.args.ops.now
    c.loop-op.op-index _ c.loop-op-test.true c.op-item.is c.in-Err.error c.in-Err.ensures

pub loop-op-preserved : goal.loop-op-preserved
loop-op-preserved c =
    all_more (op_cell cell_at (rows_at c.args.rows.now c.args.places.now)) c.args.ops.now c.loop-op.op-index _ c.loop-op.given
    c.in-Ok.cell c.loop-op-test.true c.op-item.is c.loop-op.invariant c.in-Ok.ensures
    ∙ ap Some (sym c.in_ok-push-in-Ok.ensures.ok)
