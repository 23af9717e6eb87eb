-- Items in the order of their marks.
use Rattle.std.specs.Cmp.{IsTotalOrder, on_total, nat_cmp_total}
use Rattle.vega_drawing.specs.Units.{unit_of, by_unit}

pub by_unit_total : IsTotalOrder by_unit
by_unit_total = on_total unit_of nat_cmp_total
