-- Extents that take in more.
use Rattle.std.specs.Prelude.{ℕ, ℤ, Option, Some, None, List}
use Rattle.std.specs.Int.{int_min, int_max}
use Rattle.cell_value.specs.declared.state.Keyed.{Keyed}
use Rattle.cell_value.specs.Datum.{cell_at}
use Rattle.cell_value.specs.Cell.{number_in}

-- an extent that takes in a number too
abbrev pub widened : Option (ℤ × ℤ) → ℤ → Option (ℤ × ℤ)
widened None n = Some (n, n)
widened (Some found) n = Some (int_min found.0 n, int_max found.1 n)

-- an extent that takes in a number, if there is one
abbrev pub wider : Option (ℤ × ℤ) → Option ℤ → Option (ℤ × ℤ)
wider found None = found
wider found (Some n) = widened found n

-- an extent that takes in the number of a row
abbrev pub with_row : List ℕ → Option (ℤ × ℤ) → Keyed → Option (ℤ × ℤ)
with_row name found row = wider found (number_in (cell_at row name))
