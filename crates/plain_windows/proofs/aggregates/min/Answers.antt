use Rattle.std.proofs.Common.{◌∙◌, ap, map, Some, arith}
use Rattle.std.proofs.lemmas.List.{length-map}
use Rattle.cell_value.specs.Datum.{Datum, datum_of}
use Rattle.expr_eval.specs.Numbers.{the_number, number_or_null}
use Rattle.plain_groups.specs.GroupRows.{read_by}
use Rattle.plain_orders.specs.Partitions.{datum_at, data_at}
use Rattle.plain_windows.specs.inner.Levels.{numbers_read}
use Rattle.plain_windows.proofs.OuterLemmas.{least_read}
use Rattle.plain_windows.proofs.aggregates.min.Goals as goal

pub returns : goal.returns
returns c =
    let seen = map datum_of c.args.rows.now in
    let all = data_at seen c.args.places.now in
    let op = c.args.op.now in
    ap Some (c.number_or_null.ensures
    ∙ ap number_or_null (c.outermost_in.ensures (numbers_read op all) c.requires.levels
    (omega (
      arith,
      c.requires.frame,
      length-map c.args.places.now (datum_at seen),
      length-map all (λ (other : Datum). the_number (read_by op other.cell)),
    ))))
    ∙ least_read op all c.args.frame
