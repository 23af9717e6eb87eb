use Rattle.plain_orders.specs.Partitions.{datum_at}
use Rattle.mark_encode.specs.Orders.{data_of}
use Rattle.mark_encode.proofs.RowLemmas.{none_read, place_read, all_read}
use Rattle.mark_encode.proofs.orders.rows_at.Goals as goal

pub loop-place-init : goal.loop-place-init
loop-place-init c = none_read _ c.in_ok-found.ensures

pub loop-place-preserved : goal.loop-place-preserved
loop-place-preserved c =
    place_read (datum_at (data_of c.args.rows.now)) c.args.places.now c.loop-place.place-index _ _ _ c.loop-place-test.true
    c.loop-place.invariant c.row_at.ensures.reads c.in_ok-push_row.ensures.reads c.in_ok-push_row.ensures.ids

pub returns : goal.returns
returns c =
    all_read (datum_at (data_of c.args.rows.now)) c.args.places.now c.loop-place.place-index _ c.loop-place-test.false
    c.loop-place.invariant
