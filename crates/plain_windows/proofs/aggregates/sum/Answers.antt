use Rattle.std.proofs.Common.{map, subst}
use Rattle.cell_value.specs.declared.cell.Cell.{Cell}
use Rattle.cell_value.specs.Datum.{Datum, datum_of}
use Rattle.expr_eval.specs.Answers.{Evaluates}
use Rattle.plain_groups.specs.GroupRows.{read_by}
use Rattle.plain_orders.specs.Partitions.{data_at}
use Rattle.plain_windows.specs.inner.Views.{part}
use Rattle.plain_windows.proofs.TotalLemmas.{sums_numbers}
use Rattle.plain_windows.proofs.aggregates.sum.Goals as goal

pub returns : goal.returns
returns c =
    let seen = map datum_of c.args.rows.now in
    let all = data_at seen c.args.places.now in
    let read : Datum → Cell = λ other. read_by c.args.op.now other.cell in
    let cells = map read (part c.args.frame all) in
    subst (Evaluates c.sum_cell.result) (sums_numbers cells c.totaled.result c.totaled.ensures.value) c.sum_cell.ensures
