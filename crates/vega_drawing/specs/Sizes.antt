-- How wide and how high a plot is, and the picture round it, in millionths of a pixel.
use Rattle.std.specs.Prelude.{◌≡◌, refl, ◌*◌, ◌^◌, ℤ, pos, negsuc, Option, Some, None, unwrap_or}
use Rattle.std.specs.Option.{option_map, option_map_or}
use Rattle.std.specs.Int.{int_min, int_max}
use Rattle.fixed_num.specs.Number.{million, limit}
use Rattle.cell_value.specs.declared.cell.Cell.{Cell}
use Rattle.cell_value.specs.declared.cell.Cell.TheVariants.{Null, Number}
use Rattle.expr_eval.specs.Values.{Values}
use Rattle.expr_eval.specs.Plain.{null_row}
use Rattle.expr_eval.specs.Value.{value_of}
use Rattle.expr_eval.specs.Numbers.{the_number}
use Rattle.vega_spec.specs.declared.spec.Size.{Size}
use Rattle.vega_spec.specs.declared.spec.Size.TheVariants as size

-- a computed size is cut to 0 to 10^11 pixels; what is no number is 0
abbrev pub size_in : Cell → ℤ
size_in cell = option_map_or (λ n. int_max (pos 0) (int_min n (pos (10 ^ 11 * million)))) (the_number cell) (pos 0)

-- the width or height of a plot: as written, else that of its expression; 0 where it is absent. None where the expression overflows.
abbrev pub size_of : Values → Option Size → Option ℤ
size_of values None = Some (pos 0)
size_of values (Some (size.Number n)) = Some n
size_of values (Some (size.Signal e)) = option_map size_in (value_of null_row values e)

-- the space round a picture, 5 pixels where none is given
abbrev pub padding_round : Option ℤ → ℤ
padding_round given = unwrap_or given (pos (5 * million))

-- The rules at work.

sizes_of_cells : (size_in (Number (negsuc 0)) ≡ pos 0) × (size_in Null ≡ pos 0) × (size_in (Number (pos limit)) ≡ pos (10 ^ 11 * million))
sizes_of_cells = (refl, refl, refl)
