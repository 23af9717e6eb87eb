use Rattle.std.proofs.Common.{◌<◌, length, All, List, IfOk, subst, sym, ap, ◌∙◌}
use Rattle.cell_value.specs.Datum.{Datum}
use Rattle.plain_orders.specs.Partitions.{data_at}
use Rattle.mark_encode.specs.Orders.{data_of, ReadAs}
use Rattle.mark_encode.proofs.RowLemmas.{ids_listed}
use Rattle.mark_encode.proofs.orders.sorted_rows.Goals as goal

pub rows_at-requires-clause-rows : goal.rows_at-requires-clause-rows
rows_at-requires-clause-rows c = ids_listed c.args.rows.now c.requires

pub rows_at-requires-clause-places : goal.rows_at-requires-clause-places
rows_at-requires-clause-places c =
    subst (All (λ place. place < length c.args.rows.now)) (sym c.as_slice.ensures) c.in_ok-places.ensures.within

pub returns : goal.returns
returns c =
    let Reads : List Datum → Type 0 = λ read. IfOk c.rows_at.result (λ found. ReadAs found read) in
    subst Reads (ap (data_at (data_of c.args.rows.now)) c.as_slice.ensures ∙ c.in_ok-places.ensures.value) c.rows_at.ensures
