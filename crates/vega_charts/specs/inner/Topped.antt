-- The top of a specification behind references.
use Rattle.std.specs.Prelude.{List}
use Rattle.cell_value.specs.declared.state.Named.{Named}
use Rattle.cell_value.specs.declared.state.StoreOf.{StoreOf}
use Rattle.expr_eval.specs.Stores.{values_of_stores}
use Rattle.vega_spec.specs.declared.spec.Group.{out-Group}
use Rattle.vega_spec.specs.declared.spec.VgSpec.{VgSpec}
use Rattle.vega_lists.specs.Held.{scope_read}
use Rattle.vega_lists.specs.Inside.{RowsByName, no_rows, rows_inside}
use Rattle.vega_signals.specs.Settling.{values_inside}
use Rattle.vega_copies.specs.declared.names.Level.{Level}
use Rattle.vega_copies.specs.Outlines.{Opened, object_here}
use Rattle.vega_copies.specs.Scopes.{Names}
use Rattle.vega_copies.specs.inner.Levels.{parts_over}
use Rattle.vega_copies.specs.inner.Outlined.{marks_in, marks_from}

-- the top with the marks in it, by its members
abbrev pub top_of : VgSpec → Opened
top_of g = record { object = object_here (out-Group g.group); marks = marks_from 0 1 (marks_in (out-Group g.group)) }

-- the rows for which names stand at the top, where this is its level
abbrev pub rows_on_top : List Named → Level → RowsByName
rows_on_top sources level = rows_inside sources (parts_over level.parts no_rows) level.lists

abbrev pub names_on_top : List StoreOf → List Named → Level → Names
names_on_top stores sources level = record {
  lists = scope_read (rows_on_top sources level);
  values = values_inside level.signals (values_of_stores stores);
}
