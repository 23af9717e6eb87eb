-- Results that may go out of range.
use Rattle.std.specs.Prelude.{ℤ, Option, Some, None}
use Rattle.fixed_num.specs.Ranges.{in_range}
use Rattle.cell_value.specs.declared.cell.Cell.{Cell}
use Rattle.cell_value.specs.declared.cell.Cell.TheVariants.{Number}

-- a number as a cell, where it is there
abbrev pub number_cell : Option ℤ → Option Cell
number_cell None = None
number_cell (Some n) = Some (Number n)

-- a number as a cell, if it is in range
abbrev pub number : ℤ → Option Cell
number m = number_cell (in_range m)
