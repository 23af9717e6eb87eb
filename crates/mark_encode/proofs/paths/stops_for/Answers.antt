use Rattle.cell_value.specs.Datum.{Datum}
use Rattle.mark_encode.specs.Paths.{stop_for}
use Rattle.mark_encode.specs.inner.PathParts.{path_values}
use Rattle.mark_encode.proofs.RowLemmas.{id_there}
use Rattle.mark_encode.proofs.PathLemmas.{starts, next_row, stopped_row, finished}
use Rattle.mark_encode.proofs.paths.stops_for.Goals as goal

pub loop-row-init : goal.loop-row-init
loop-row-init g c = starts _ _ c.in_ok-stops.ensures

pub stop_for-requires : goal.stop_for-requires
stop_for-requires g c =
    id_there c.args.rows.now c.loop-row.row-index c.row-item.result c.requires c.loop-row-test.true c.row-item.is

pub returns-in-Err : goal.returns-in-Err
returns-in-Err g c =
    stopped_row (λ (row : Datum). stop_for (path_values c.args.path.now) (g.P.ParamReader.values c.args.params.now) row.cell) c.args.rows.now
    c.loop-row.row-index c.row-item.result c.loop-row.stops _ c.in-Err.error c.loop-row-test.true c.row-item.is c.loop-row.invariant
    c.in-Err.ensures

pub loop-row-preserved : goal.loop-row-preserved
loop-row-preserved g c =
    next_row (λ (row : Datum). stop_for (path_values c.args.path.now) (g.P.ParamReader.values c.args.params.now) row.cell) c.args.rows.now
    c.loop-row.row-index c.row-item.result c.loop-row.stops _ c.in-Ok.stop _ c.loop-row-test.true c.row-item.is c.loop-row.invariant
    c.in-Ok.ensures c.in_ok-push-in-Ok.ensures.ok

pub returns : goal.returns
returns g c =
    finished (λ (row : Datum). stop_for (path_values c.args.path.now) (g.P.ParamReader.values c.args.params.now) row.cell) c.args.rows.now
    c.loop-row.row-index c.loop-row.stops _ c.loop-row-test.false c.loop-row.invariant
