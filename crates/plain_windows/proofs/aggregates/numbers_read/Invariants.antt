use Rattle.std.proofs.Common.{◌≡◌, ◌++◌, map, drop}
use Rattle.cell_value.specs.Datum.{datum_of}
use Rattle.plain_orders.specs.Partitions.{data_at}
use Rattle.plain_windows.specs.inner.Levels.{numbers_read}
use Rattle.plain_windows.proofs.aggregates.numbers_read.Given as goal

abbrev pub invariant-loop-place : goal.invariant-loop-place
invariant-loop-place l =
    l.numbers ++ numbers_read l.op (data_at (map datum_of l.rows) (drop l.place-index l.places))
    ≡ numbers_read l.op (data_at (map datum_of l.rows) l.places)
