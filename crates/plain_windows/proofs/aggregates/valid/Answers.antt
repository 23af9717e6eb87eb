use Rattle.std.proofs.Common.{◌∙◌, ap, map, Some, arith}
use Rattle.std.proofs.lemmas.List.{length-map}
use Rattle.cell_value.specs.declared.cell.Cell.{Cell}
use Rattle.cell_value.specs.Datum.{Datum, datum_of}
use Rattle.plain_groups.specs.Aggregates.{count_cell}
use Rattle.plain_groups.specs.GroupRows.{read_by}
use Rattle.plain_orders.specs.Partitions.{datum_at, data_at}
use Rattle.plain_windows.specs.inner.Views.{part}
use Rattle.plain_windows.proofs.TotalLemmas.{part_long, counts_valid}
use Rattle.plain_windows.proofs.aggregates.valid.Goals as goal

pub returns : goal.returns
returns c =
    let seen = map datum_of c.args.rows.now in
    let all = data_at seen c.args.places.now in
    let read : Datum → Cell = λ other. read_by c.args.op.now other.cell in
    let cells = map read (part c.args.frame all) in
    ap Some (c.count_cell.ensures ∙ ap count_cell c.saturating_sub.ensures)
    ∙ counts_valid cells c.totaled-nulls.result c.frame_length.result c.totaled-nulls.ensures.value
    (c.frame_length.ensures ∙ part_long all c.args.frame read
    (omega (arith, c.requires.frame, length-map c.args.places.now (datum_at seen))))
