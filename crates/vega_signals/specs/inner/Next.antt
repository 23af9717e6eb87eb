-- The values that the signals of an object have where names are read so.
use Rattle.std.specs.Prelude.{List, ◌++◌, flat_map}
use Rattle.cell_value.specs.State.{Dataset}
use Rattle.expr_eval.specs.Values.{Values}
use Rattle.vega_spec.specs.declared.data.DataSet.{DataSet}
use Rattle.vega_spec.specs.declared.signals.Signal.{Signal}
use Rattle.vega_lists.specs.Scopes.{Scope}
use Rattle.vega_signals.specs.Extents.{Settled, computed_here, set_extents}

-- those that are given, those of the computed ones, and those of the extents of data sets
abbrev pub next_by : List Dataset → Scope → Settled → List Signal → List DataSet → Values → Settled
next_by sources lists given signals sets values = given ++ flat_map (computed_here values) signals ++ set_extents values sources lists sets
