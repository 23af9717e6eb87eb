use Rattle.std.proofs.Common.{take}
use Rattle.plain_orders.specs.Partitions.{data_at}
use Rattle.mark_encode.specs.Orders.{data_of, ReadAs}
use Rattle.mark_encode.proofs.orders.rows_at.Given as goal

abbrev pub invariant-loop-place : goal.invariant-loop-place
invariant-loop-place l = ReadAs l.found (data_at (data_of l.rows) (take l.place-index l.places))
