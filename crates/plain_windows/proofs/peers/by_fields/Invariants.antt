use Rattle.std.proofs.Common.{◌≡◌, drop}
use Rattle.cell_value.specs.Datum.{datum_of}
use Rattle.plain_orders.specs.Orders.{by_fields}
use Rattle.plain_windows.proofs.peers.by_fields.Given as goal

abbrev pub invariant-loop-s : goal.invariant-loop-s
invariant-loop-s l = by_fields (drop l.s-index l.sort) (datum_of l.x) (datum_of l.y) ≡ by_fields l.sort (datum_of l.x) (datum_of l.y)
