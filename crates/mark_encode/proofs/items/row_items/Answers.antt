use Rattle.mark_encode.specs.Prepared.{item_of_row}
use Rattle.mark_encode.proofs.RowLemmas.{id_there}
use Rattle.mark_encode.proofs.ItemLemmas.{no_items, next_item, stopped_item, all_items}
use Rattle.mark_encode.proofs.items.row_items.Goals as goal

pub loop-row-init : goal.loop-row-init
loop-row-init g c = no_items _ _ c.in_ok-items.ensures

pub item_of_row-requires : goal.item_of_row-requires
item_of_row-requires g c =
    id_there c.args.rows.now c.loop-row.row-index c.row-item.result c.requires c.loop-row-test.true c.row-item.is

pub returns-in-Err : goal.returns-in-Err
returns-in-Err g c =
    stopped_item (item_of_row c.args.mark.now c.args.unit (g.P.ParamReader.values c.args.params.now)) c.args.rows.now
    c.loop-row.row-index c.row-item.result c.loop-row.items _ c.in-Err.error c.loop-row-test.true c.row-item.is c.loop-row.invariant
    c.in-Err.ensures

pub loop-row-preserved : goal.loop-row-preserved
loop-row-preserved g c =
    next_item (item_of_row c.args.mark.now c.args.unit (g.P.ParamReader.values c.args.params.now)) c.args.rows.now
    c.loop-row.row-index c.row-item.result c.loop-row.items _ c.in-Ok.item _ c.loop-row-test.true c.row-item.is c.loop-row.invariant
    c.in-Ok.ensures c.in_ok-add-in-Ok.ensures

pub returns : goal.returns
returns g c =
    all_items (item_of_row c.args.mark.now c.args.unit (g.P.ParamReader.values c.args.params.now)) c.args.rows.now
    c.loop-row.row-index c.loop-row.items _ c.loop-row-test.false c.loop-row.invariant
