use Rattle.std.proofs.Common.{◌∙◌, ap, sym, map, Some, arith}
use Rattle.std.proofs.lemmas.List.{length-map}
use Rattle.cell_value.specs.declared.cell.Cell.{Cell}
use Rattle.cell_value.specs.Datum.{Datum, datum_of}
use Rattle.plain_groups.specs.Aggregates.{aggregate_of}
use Rattle.plain_groups.specs.GroupRows.{read_by}
use Rattle.plain_orders.specs.Partitions.{datum_at, data_at}
use Rattle.plain_windows.specs.inner.Views.{part}
use Rattle.plain_windows.proofs.FirstLemmas.{first_within, first_small, firsts_of_frame}
use Rattle.plain_windows.proofs.aggregates.by_firsts.Goals as goal

pub bounds-counts-frame : goal.bounds-counts-frame
bounds-counts-frame c =
    let seen = map datum_of c.args.rows.now in
    first_within (data_at seen c.args.places.now) (λ other. read_by c.args.op.now other.cell) c.args.counts.now c.requires.counts c.args.frame
    (omega (arith, c.requires.frame, length-map c.args.places.now (datum_at seen)))

pub count_cell-requires : goal.count_cell-requires
count_cell-requires c =
    let places = c.args.places.now in
    let seen = map datum_of c.args.rows.now in
    let long = length-map places (datum_at seen) in
    let small =
    first_small (data_at seen places) (λ (other : Datum). read_by c.args.op.now other.cell) c.args.counts.now c.requires.counts
    c.args.frame (omega (arith, c.requires.frame, long)) in
    omega (arith, small, long, c.requires.few)

pub returns-then-frame-eq0 : goal.returns-then-frame-eq0
returns-then-frame-eq0 c =
    let places = c.args.places.now in
    let seen = map datum_of c.args.rows.now in
    let all = data_at seen places in
    let read : Datum → Cell = λ other. read_by c.args.op.now other.cell in
    ap (λ op. aggregate_of op (map read (part c.args.frame all))) c.requires.op
    ∙ sym (firsts_of_frame all read c.args.counts.now c.requires.counts c.args.frame
    (omega (arith, c.requires.frame, length-map places (datum_at seen))) c.if-frame-eq0.true)
    ∙ ap Some (sym c.count_cell.ensures)
