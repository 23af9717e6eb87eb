use Rattle.std.proofs.Common.{◌∙◌, ap, sym, map}
use Rattle.std.proofs.lemmas.List.{length-map}
use Rattle.cell_value.specs.Datum.{Datum, datum_of}
use Rattle.plain_groups.specs.Aggregates.{aggregate_of}
use Rattle.plain_groups.specs.GroupRows.{read_by}
use Rattle.plain_orders.specs.Partitions.{datum_at, data_at}
use Rattle.plain_windows.proofs.PartLemmas.{all_of}
use Rattle.plain_windows.proofs.aids.whole_aid.Goals as goal

pub returns-in-Ok : goal.returns-in-Ok
returns-in-Ok c =
    let seen = map datum_of c.args.rows.now in
    let all = data_at seen c.args.places.now in
    let op = c.args.op.now in
    ap (λ l. aggregate_of op.op (map (λ (other : Datum). read_by op other.cell) l))
    (sym (all_of c.whole_frame.result all c.whole_frame.ensures.from
    (c.whole_frame.ensures.to ∙ sym (length-map c.args.places.now (datum_at seen)))))
    ∙ c.in-Ok.ensures
