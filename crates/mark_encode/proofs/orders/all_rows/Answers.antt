use Rattle.cell_value.specs.Datum.{datum_of}
use Rattle.plain_rows.proofs.Keys.{small_id}
use Rattle.mark_encode.proofs.RowLemmas.{none_read, one_read, all_read}
use Rattle.mark_encode.proofs.orders.all_rows.Goals as goal

pub loop-row-init : goal.loop-row-init
loop-row-init c = none_read _ c.in_ok-found.ensures

pub push_row-requires : goal.push_row-requires
push_row-requires c = small_id c.args.rows.now c.loop-row.row-index _ c.requires c.loop-row-test.true c.row-item.is

pub loop-row-preserved : goal.loop-row-preserved
loop-row-preserved c =
    one_read datum_of c.args.rows.now c.loop-row.row-index c.row-item.result _ _ c.loop-row-test.true c.row-item.is c.loop-row.invariant
    c.in_ok-push_row.ensures.reads c.in_ok-push_row.ensures.ids

pub returns : goal.returns
returns c = all_read datum_of c.args.rows.now c.loop-row.row-index _ c.loop-row-test.false c.loop-row.invariant
