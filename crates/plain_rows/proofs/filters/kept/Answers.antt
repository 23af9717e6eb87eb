use Rattle.std.proofs.Common.{◌∙◌, ap, sym, Some}
use Rattle.cell_value.specs.Datum.{cell_at}
use Rattle.expr_eval.specs.Value.{truth_of}
use Rattle.plain_rows.proofs.Lists.{stops_kept, kept_more}
use Rattle.plain_rows.proofs.Keys.{small_id}
use Rattle.plain_rows.proofs.filters.kept.Goals as goal

pub eval_test-requires : goal.eval_test-requires
eval_test-requires g c = small_id c.args.rows.now c.loop-row.row-index _ c.requires c.loop-row-test.true c.row-item.is

pub returns-in-Err : goal.returns-in-Err
returns-in-Err g c =
    stops_kept (λ row. truth_of (cell_at row) (g.P.ParamReader.values c.args.params.now) c.args.test.now) c.args.rows.now
    c.loop-row.row-index _ c.loop-row-test.true c.row-item.is c.in-Err.error c.in-Err.ensures

pub loop-row-preserved : goal.loop-row-preserved
loop-row-preserved g c =
    kept_more (λ row. truth_of (cell_at row) (g.P.ParamReader.values c.args.params.now) c.args.test.now) c.args.rows.now c.loop-row.row-index _
    c.loop-row.out c.in-Ok.passes c.loop-row-test.true c.row-item.is c.loop-row.invariant c.in-Ok.ensures
    ∙ ap Some (sym c.in_ok-push_passing-in-Ok.ensures)
