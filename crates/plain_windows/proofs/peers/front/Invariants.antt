use Rattle.std.proofs.Common.{◌-◌, map, filter, length}
use Rattle.cell_value.specs.Datum.{datum_of}
use Rattle.plain_orders.specs.Partitions.{data_at}
use Rattle.plain_windows.specs.inner.Views.{IsBetween, in_front}
use Rattle.plain_windows.proofs.peers.front.Given as goal

abbrev pub invariant-loop-low : goal.invariant-loop-low
invariant-loop-low l =
    IsBetween l.low (length (filter (in_front l.sort l.through (datum_of l.x)) (data_at (map datum_of l.rows) l.places))) l.high
    (length l.places)

abbrev pub decreases-loop-low : goal.decreases-loop-low
decreases-loop-low l = l.high - l.low
