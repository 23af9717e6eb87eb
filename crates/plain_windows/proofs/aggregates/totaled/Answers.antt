use Rattle.std.proofs.Common.{◌∙◌, map, arith}
use Rattle.std.proofs.lemmas.List.{length-map}
use Rattle.cell_value.specs.Datum.{datum_of}
use Rattle.plain_orders.specs.Partitions.{datum_at, data_at}
use Rattle.plain_windows.proofs.TotalLemmas.{total_is, totals_long}
use Rattle.plain_windows.proofs.aggregates.totaled.Goals as goal

pub total_in-requires-clause-inside : goal.total_in-requires-clause-inside
total_in-requires-clause-inside c =
    let seen = map datum_of c.args.rows.now in
    omega (
      arith,
      totals_long (data_at seen c.args.places.now) c.args.op.now c.args.totals.now c.requires.totals.are,
      length-map c.args.places.now (datum_at seen),
      c.requires.frame,
    )

pub returns-clause-value : goal.returns-clause-value
returns-clause-value c =
    let seen = map datum_of c.args.rows.now in
    c.total_in.ensures.value
    ∙ total_is (data_at seen c.args.places.now) c.args.op.now c.args.totals.now c.args.frame c.requires.totals.are
    (omega (arith, c.requires.frame, length-map c.args.places.now (datum_at seen)))
