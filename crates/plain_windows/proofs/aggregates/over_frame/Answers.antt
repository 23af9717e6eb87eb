use Rattle.std.proofs.Common.{◌∙◌, ap, sym, subst, map}
use Rattle.cell_value.specs.declared.cell.Cell.{Cell}
use Rattle.cell_value.specs.Datum.{Datum, datum_of}
use Rattle.expr_eval.specs.Answers.{Evaluates}
use Rattle.plain_groups.specs.Aggregates.{aggregate_of}
use Rattle.plain_groups.specs.GroupRows.{read_by}
use Rattle.plain_orders.specs.Partitions.{data_at}
use Rattle.plain_windows.proofs.PartLemmas.{part_seen}
use Rattle.plain_windows.proofs.aggregates.over_frame.Goals as goal

pub returns : goal.returns
returns c =
    let read : Datum → Cell = λ other. read_by c.args.op.now other.cell in
    let seen = map datum_of c.args.rows.now in
    subst (λ l. Evaluates c.aggregate_cells.result (aggregate_of c.args.op.now.op l))
    (c.as_slice.ensures ∙ c.in_ok-cells.ensures ∙ ap (λ l. map read (data_at seen l)) c.frame_places.ensures
    ∙ ap (map read) (sym (part_seen seen c.args.places.now c.args.frame)))
    c.aggregate_cells.ensures
