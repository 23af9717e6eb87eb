use Rattle.std.proofs.Common.{List, IfOk, subst, ◌∙◌}
use Rattle.plain_rows.specs.declared.transforms.SortBy.{SortBy}
use Rattle.plain_orders.specs.Orders.{row_order, in_order}
use Rattle.mark_encode.specs.Orders.{data_of, ReadAs}
use Rattle.mark_encode.proofs.orders.rows_by_sort.Goals as goal

pub returns : goal.returns
returns c =
    let Reads : List SortBy → Type 0 =
    λ settings. IfOk c.sorted_rows.result (λ found. ReadAs found (in_order (row_order settings) (data_of c.args.rows.now))) in
    subst Reads (c.as_slice.ensures ∙ c.in_ok-settings.ensures) c.sorted_rows.ensures
