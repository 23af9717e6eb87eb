use Rattle.std.proofs.Common.{map, take}
use Rattle.std.specs.List.{AllZip}
use Rattle.cell_value.specs.Datum.{datum_of}
use Rattle.plain_orders.specs.Partitions.{data_at}
use Rattle.plain_windows.specs.inner.Aids.{IsAid}
use Rattle.plain_windows.proofs.aids.op_aids.Given as goal

abbrev pub invariant-loop-op : goal.invariant-loop-op
invariant-loop-op l = AllZip (IsAid l.w.sort (data_at (map datum_of l.rows) l.places)) (take l.op-index l.ops) l.aids
