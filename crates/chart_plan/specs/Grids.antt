-- The grids of a chart: a faceted view, of which each part of the rows is a panel, and joined views. A facet has one field, or by rows and columns up
-- to two, of which the row's stands first. The cells of a field stand as those of a discrete domain, by the field's `sort`; an order by rows is over
-- those of the first unit below. A panel is headed by its cells: beside it by that of the row, else above it, unless `labels` of the field's `header`
-- is false. A facet of one field has the `columns` of its view, else those of its field, and without them stands in one row; by rows and columns each
-- cell of the column has a column. `hconcat` is one row, `vconcat` one column, and `concat` has its `columns`, or is one row. The space between is
-- the view's own, else 20, and the view's title that of its grid.
use Rattle.std.specs.Prelude.{ℕ, ◌==◌, ◌*◌, Bool, true, ℤ, pos, Option, Some, None, List, [], ◌∷◌, ◌++◌, find, is_some}
use Rattle.std.specs.Prelude.{option_map, option_to_list, unwrap_or, if◌then◌else◌}
use Rattle.std.specs.Option.{option_and_then, option_map_or, option_or}
use Rattle.std.specs.List.{filter_map, fold, list_any}
use Rattle.fixed_num.specs.Number.{million}
use Rattle.vl_normalize.specs.declared.codes.TheConstants.{ROW, COLUMN, FACET}
use Rattle.vl_spec.specs.declared.channels.Channel.{Channel, out-Channel}
use Rattle.vl_spec.specs.declared.definitions.Definition.{Definition}
use Rattle.vl_spec.specs.declared.definitions.Definition.TheVariants as definition
use Rattle.vl_spec.specs.declared.guides.Header.{Header}
use Rattle.vl_spec.specs.declared.views.CrossFacet.{CrossFacet}
use Rattle.vl_spec.specs.declared.views.Facet.{Facet}
use Rattle.vl_spec.specs.declared.views.Facet.TheVariants as facet
use Rattle.vl_spec.specs.declared.views.Joining.{Joining}
use Rattle.vl_spec.specs.declared.views.Joining.TheVariants as joining
use Rattle.vl_compose.specs.Rounds.{KindAt, AUnit, ALayer, AFacet, AJoined, FacetAt, JoinedAt, ViewAt}
use Rattle.vl_compose.specs.Units.{UnitAt}
use Rattle.plan_kit.specs.declared.grids.FacetField.{FacetField}
use Rattle.plan_kit.specs.declared.grids.FacetPlan.{FacetPlan}
use Rattle.plan_kit.specs.declared.grids.GridColumns.{GridColumns}
use Rattle.plan_kit.specs.declared.grids.GridColumns.TheVariants.{OneRow, Count, Crossed}
use Rattle.plan_kit.specs.declared.grids.GridPlan.{GridPlan}
use Rattle.plan_kit.specs.declared.orders.CellOrder.{CellOrder}
use Rattle.plan_kit.specs.declared.orders.CellOrder.TheVariants.{Up}
use Rattle.guide_infer.specs.Axes.{count_of}
use Rattle.chart_plan.specs.Orders.{order_in, start_in}

-- ---- fields of facets

-- what a channel shows where no condition holds
abbrev pub shown_by : Channel → Definition
shown_by c = (out-Channel c).definition

-- whether panels have headers
abbrev pub header_in : Definition → Option Header
header_in (definition.Value cell) = None
header_in (definition.Datum d) = None
header_in (definition.Field f) = f.header

abbrev pub are_labelled : Definition → Bool
are_labelled d = unwrap_or (option_and_then (λ (h : Header). h.labels) (header_in d)) true

-- the order of cells of which nothing is said
abbrev pub up : CellOrder
up = Up

-- the order of a field's cells, where this is the first unit below
abbrev pub field_order : Option UnitAt → ℕ → Definition → CellOrder
field_order None channel d = up
field_order (Some unit) channel d = unwrap_or (order_in unit channel d) up

-- a field of a facet by its definition
abbrev pub field_by : Option UnitAt → ℕ → Definition → FacetField
field_by unit channel d = record {
  name = unwrap_or (start_in channel d) [];
  order = field_order unit channel d;
  is_beside = channel == ROW;
  labels = are_labelled d;
}

abbrev pub field_of : Option UnitAt → ℕ → Channel → FacetField
field_of unit channel c = field_by unit channel (shown_by c)

abbrev pub field_list : Option UnitAt → ℕ → Option Channel → List FacetField
field_list unit channel c = option_to_list (option_map (field_of unit channel) c)

abbrev pub fields_of : Option UnitAt → Facet → List FacetField
fields_of unit (facet.One c) = field_of unit FACET c ∷ []
fields_of unit (facet.Cross cross) = field_list unit ROW cross.row ++ field_list unit COLUMN cross.column

-- ---- units below a view

-- whether a unit is one of a view's
abbrev pub is_below : ℕ → UnitAt → Bool
is_below number unit = list_any (λ (v : ViewAt). v.number == number) unit.round

abbrev pub number_below : ℕ → UnitAt → Option ℕ
number_below number unit = if is_below number unit then Some unit.number else None

abbrev pub units_below : ℕ → List UnitAt → List ℕ
units_below number units = filter_map (number_below number) units

abbrev pub facet_plan : List UnitAt → ℕ → Facet → FacetPlan
facet_plan units number f = record {
  fields = fields_of (find (is_below number) units) f;
  units = units_below number units;
}

-- ---- columns

-- as many columns as a number says, or one row
abbrev pub columns_said : Option ℤ → GridColumns
columns_said columns = option_map_or (λ n. Count (count_of n)) columns OneRow

abbrev pub columns_in : Definition → Option ℤ
columns_in (definition.Value cell) = None
columns_in (definition.Datum d) = None
columns_in (definition.Field f) = f.columns

-- by rows and columns: where there is a row, a column for each of its cells, or one alone
abbrev pub crossed_columns : CrossFacet → GridColumns
crossed_columns cross = if is_some cross.column then (if is_some cross.row then Crossed else OneRow) else Count 1

abbrev pub facet_columns : Option ℤ → Facet → GridColumns
facet_columns columns (facet.One c) = columns_said (option_or columns (columns_in (shown_by c)))
facet_columns columns (facet.Cross cross) = crossed_columns cross

abbrev pub joined_columns : Option ℤ → Joining → GridColumns
joined_columns columns joining.Row = OneRow
joined_columns columns joining.Column = Count 1
joined_columns columns joining.Grid = columns_said columns

-- ---- grids

-- the space between the cells of a grid where none is said: 20 pixels
abbrev pub usual_spacing : ℤ
usual_spacing = pos (20 * million)

abbrev pub faceted_grid : List UnitAt → ViewAt → FacetAt → GridPlan
faceted_grid units v f = record {
  number = v.number;
  facet = Some (facet_plan units v.number f.facet);
  columns = facet_columns f.columns f.facet;
  spacing = unwrap_or f.spacing usual_spacing;
  title = v.title;
}

abbrev pub joined_grid : ViewAt → JoinedAt → GridPlan
joined_grid v j = record {
  number = v.number;
  facet = None;
  columns = joined_columns j.columns j.joining;
  spacing = unwrap_or j.spacing usual_spacing;
  title = v.title;
}

-- the grid of a view, if it is one
abbrev pub grid_by : List UnitAt → ViewAt → KindAt → Option GridPlan
grid_by units v (AUnit unit) = None
grid_by units v (ALayer encoding) = None
grid_by units v (AFacet f) = Some (faceted_grid units v f)
grid_by units v (AJoined j) = Some (joined_grid v j)

abbrev pub grid_in : List UnitAt → ViewAt → Option GridPlan
grid_in units v = grid_by units v v.kind

-- grids and that of a view, unless it is there
abbrev pub is_there : ℕ → List GridPlan → Bool
is_there number grids = list_any (λ (g : GridPlan). g.number == number) grids

abbrev pub with_grid : List UnitAt → List GridPlan → ViewAt → List GridPlan
with_grid units grids v = if is_there v.number grids then grids else grids ++ option_to_list (grid_in units v)

-- The grids round some units, an outer one before those in it. These are all grids: no view is without a unit, since an empty layer or list of joined views
-- is refused.
abbrev pub with_grids : List UnitAt → List GridPlan → UnitAt → List GridPlan
with_grids units grids unit = fold (with_grid units) grids unit.round

abbrev pub grids_of : List UnitAt → List GridPlan
grids_of units = fold (with_grids units) [] units
