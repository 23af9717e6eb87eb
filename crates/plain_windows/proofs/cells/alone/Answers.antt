use Rattle.std.proofs.Common.{map}
use Rattle.cell_value.specs.Datum.{datum_of}
use Rattle.plain_orders.specs.Partitions.{data_at}
use Rattle.plain_windows.specs.Windows.{windows}
use Rattle.plain_windows.specs.inner.Views.{part}
use Rattle.plain_windows.proofs.cells.alone.Goals as goal

pub returns-in-13 : goal.returns-in-13
unfolding windows
returns-in-13 c =
    rw c.in-13.is
    (c.rank.ensures (part c.args.frame (data_at (map datum_of c.args.rows.now) c.args.places.now)) c.args.op.now c.args.number)

pub returns-in-14 : goal.returns-in-14
unfolding windows
returns-in-14 c =
    rw c.in-14.is
    (c.dense_rank_by.ensures (part c.args.frame (data_at (map datum_of c.args.rows.now) c.args.places.now)) c.args.op.now c.args.number)
