-- The values of the signals of a Vega specification's top object.
use Rattle.std.specs.Prelude.{ℕ, Option, List, [], map, unwrap_or}
use Rattle.std.specs.Option.{option_map}
use Rattle.fixed_num.specs.Ranges.{all_found}
use Rattle.cell_value.specs.declared.cell.Cell.{Cell}
use Rattle.cell_value.specs.State.{Dataset}
use Rattle.expr_eval.specs.Values.{Values}
use Rattle.vega_spec.specs.declared.data.DataSet.{DataSet}
use Rattle.vega_spec.specs.declared.spec.Group.{Group, Group-F}
use Rattle.vega_spec.specs.declared.spec.VgMark.{VgMark}
use Rattle.vega_spec.specs.Names.{signals_of}
use Rattle.vega_lists.specs.Scopes.{no_lists}
use Rattle.vega_signals.specs.Extents.{Settled}
use Rattle.vega_signals.specs.Settling.{Valued, settled_own}

-- the data sets of an object
abbrev pub data_of : Group-F Group VgMark → List DataSet
data_of g = unwrap_or g.data_ []

-- The values at which the signals of the top settle. Round it no name stands for a list, and what is read of the stores of selections is known.
abbrev pub settled_values : Values → Group-F Group VgMark → List Dataset → Valued → Settled
settled_values stores g sources params = settled_own sources no_lists stores params (signals_of g) (data_of g)

-- a signal that has a value, with it
abbrev pub valued_here : List ℕ × Option Cell → Option (List ℕ × Cell)
valued_here entry = option_map (λ (cell : Cell). (entry.0, cell)) entry.1

-- the values of the signals; None exactly where one has none
abbrev pub signal_values : Values → Group-F Group VgMark → List Dataset → Valued → Option Valued
signal_values stores g sources params = all_found (map valued_here (settled_values stores g sources params))
