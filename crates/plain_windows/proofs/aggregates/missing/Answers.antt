use Rattle.std.proofs.Common.{◌∙◌, ap, map, Some}
use Rattle.cell_value.specs.declared.cell.Cell.{Cell}
use Rattle.cell_value.specs.Datum.{Datum, datum_of}
use Rattle.plain_groups.specs.GroupRows.{read_by}
use Rattle.plain_orders.specs.Partitions.{data_at}
use Rattle.plain_windows.specs.inner.Views.{part}
use Rattle.plain_windows.proofs.TotalLemmas.{counts_missing}
use Rattle.plain_windows.proofs.aggregates.missing.Goals as goal

pub returns : goal.returns
returns c =
    let seen = map datum_of c.args.rows.now in
    let all = data_at seen c.args.places.now in
    let read : Datum → Cell = λ other. read_by c.args.op.now other.cell in
    let cells = map read (part c.args.frame all) in
    ap Some c.count_cell.ensures ∙ counts_missing cells c.totaled.result c.totaled.ensures.value
