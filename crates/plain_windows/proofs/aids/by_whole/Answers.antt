use Rattle.std.proofs.Common.{◌∙◌, ap, sym, map, Some}
use Rattle.std.proofs.lemmas.List.{length-map}
use Rattle.cell_value.specs.Datum.{Datum, datum_of}
use Rattle.plain_groups.specs.Aggregates.{aggregate_of}
use Rattle.plain_groups.specs.GroupRows.{read_by}
use Rattle.plain_orders.specs.Partitions.{datum_at, data_at}
use Rattle.plain_windows.proofs.PartLemmas.{all_if}
use Rattle.plain_windows.proofs.aids.by_whole.Goals as goal

pub returns-then-has_all : goal.returns-then-has_all
returns-then-has_all c =
    let seen = map datum_of c.args.rows.now in
    let all = data_at seen c.args.places.now in
    let op = c.args.op.now in
    let is = sym c.has_all.ensures ∙ c.if-has_all.true in
    ap (λ l. aggregate_of op.op (map (λ (other : Datum). read_by op other.cell) l))
    (all_if c.args.frame _ all (sym (length-map c.args.places.now (datum_at seen))) is)
    ∙ c.requires.cell ∙ ap Some (sym c.in_ok-copy.ensures)
