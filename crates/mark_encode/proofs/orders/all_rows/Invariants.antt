use Rattle.std.proofs.Common.{map, take}
use Rattle.cell_value.specs.Datum.{datum_of}
use Rattle.mark_encode.specs.Orders.{ReadAs}
use Rattle.mark_encode.proofs.orders.all_rows.Given as goal

abbrev pub invariant-loop-row : goal.invariant-loop-row
invariant-loop-row l = ReadAs l.found (map datum_of (take l.row-index l.rows))
