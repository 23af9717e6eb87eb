use Rattle.std.proofs.Common.{◌∙◌, ap, sym, Some, option_map}
use Rattle.cell_value.specs.Datum.{cell_at}
use Rattle.cell_value.specs.declared.state.Keyed.{Keyed}
use Rattle.expr_eval.specs.Value.{value_of}
use Rattle.expr_eval.proofs.Several.{stops_all, all_more}
use Rattle.plain_rows.specs.Calculations.{with_cell}
use Rattle.plain_rows.proofs.Keys.{small_id}
use Rattle.plain_rows.proofs.calculations.calculated_rows.Goals as goal

pub calculated_row-requires : goal.calculated_row-requires
calculated_row-requires g c = small_id c.args.rows.now c.loop-row.row-index _ c.requires c.loop-row-test.true c.row-item.is

pub returns-in-Err : goal.returns-in-Err
returns-in-Err g c =
    stops_all (λ (row : Keyed).
    option_map (λ cell. with_cell c.args.name.now cell row) (value_of (cell_at row) (g.P.ParamReader.values c.args.params.now) c.args.e.now))
    c.args.rows.now c.loop-row.row-index _ c.loop-row-test.true c.row-item.is c.in-Err.error c.in-Err.ensures

pub loop-row-preserved : goal.loop-row-preserved
loop-row-preserved g c =
    all_more (λ (row : Keyed).
    option_map (λ cell. with_cell c.args.name.now cell row) (value_of (cell_at row) (g.P.ParamReader.values c.args.params.now) c.args.e.now))
    c.args.rows.now c.loop-row.row-index _ c.loop-row.out c.in-Ok.copy c.loop-row-test.true c.row-item.is c.loop-row.invariant c.in-Ok.ensures
    ∙ ap Some (sym c.in_ok-push-in-Ok.ensures.ok)
