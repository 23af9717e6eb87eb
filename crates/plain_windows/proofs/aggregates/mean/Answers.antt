use Rattle.std.proofs.Common.{◌∙◌, ap, map, Some}
use Rattle.cell_value.specs.declared.cell.Cell.{Cell}
use Rattle.cell_value.specs.Datum.{Datum, datum_of}
use Rattle.plain_groups.specs.GroupRows.{read_by}
use Rattle.plain_orders.specs.Partitions.{data_at}
use Rattle.plain_windows.specs.inner.Views.{part}
use Rattle.plain_windows.proofs.TotalLemmas.{means_numbers, averages_numbers}
use Rattle.plain_windows.proofs.aggregates.mean.Goals as goal

pub returns-clause-mean : goal.returns-clause-mean
returns-clause-mean c =
    let all = data_at (map datum_of c.args.rows.now) c.args.places.now in
    let read : Datum → Cell = λ other. read_by c.args.op.now other.cell in
    ap Some c.mean_cell.ensures ∙ means_numbers (map read (part c.args.frame all)) c.totaled.result c.totaled.ensures.value

pub returns-clause-average : goal.returns-clause-average
returns-clause-average c =
    let all = data_at (map datum_of c.args.rows.now) c.args.places.now in
    let read : Datum → Cell = λ other. read_by c.args.op.now other.cell in
    ap Some c.mean_cell.ensures ∙ averages_numbers (map read (part c.args.frame all)) c.totaled.result c.totaled.ensures.value
