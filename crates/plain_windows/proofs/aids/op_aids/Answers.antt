use Rattle.std.proofs.Common.{map}
use Rattle.cell_value.specs.Datum.{datum_of}
use Rattle.plain_orders.specs.Partitions.{data_at}
use Rattle.plain_windows.specs.inner.Aids.{IsAid}
use Rattle.plain_windows.proofs.AidLemmas.{zip_more}
use Rattle.plain_windows.proofs.aids.op_aids.Goals as goal

pub loop-op-preserved : goal.loop-op-preserved
loop-op-preserved c =
    zip_more (IsAid c.args.w.now.sort (data_at (map datum_of c.args.rows.now) c.args.places.now)) c.args.ops.now c.loop-op.op-index c.op-item.result
    c.loop-op.aids c.push.new.self c.in_ok-aid_of.field-0 c.loop-op-test.true c.op-item.is c.loop-op.invariant c.in_ok-aid_of.ensures
    c.in_ok-push.ensures.ok
