use Rattle.std.proofs.Common.{◌≡◌, ◌++◌}
use Rattle.std.specs.Option.{option_map}
use Rattle.mark_encode.specs.Items.{items_with}
use Rattle.mark_encode.specs.Orders.{data_of}
use Rattle.mark_encode.specs.Prepared.{item_of_row}
use Rattle.mark_encode.proofs.ItemLemmas.{items_from}
use Rattle.mark_encode.proofs.items.row_items.Given as goal

abbrev pub invariant-loop-row : goal.invariant-loop-row
invariant-loop-row g l =
    let item = item_of_row l.mark l.unit (g.P.ParamReader.values l.params) in
    items_with item (data_of l.rows) ≡ option_map (λ all. l.items ++ all) (items_from item l.rows l.row-index)
