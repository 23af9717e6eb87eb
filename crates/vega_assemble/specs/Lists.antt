-- The lists that are there for the domain of a scale. A cell that is no field has a list with it alone. In a listed order each column has a list of its own
-- with the ranks of its cells. In an order by rows each has one with its cells, and behind them stands the list of the rows by which the cells stand.
use Rattle.std.specs.Prelude.{ℕ, ◌==◌, ◌&&◌, Bool, false, nat_le, Option, Some, None, List, [], ◌∷◌, ◌++◌, map, flat_map, if◌then◌else◌}
use Rattle.std.specs.List.{enumerate_from, filter_map}
use Rattle.std.specs.Option.{option_map_or}
use Rattle.cell_value.specs.declared.cell.Cell.{Cell}
use Rattle.expr_syntax.specs.declared.expr.Expr.TheVariants as expr
use Rattle.vega_spec.specs.declared.data.DataSet.{DataSet}
use Rattle.vega_spec.specs.declared.transforms.Transform.{Transform}
use Rattle.plan_kit.specs.declared.cells.CellOf.{CellOf}
use Rattle.plan_kit.specs.declared.cells.CellOf.TheVariants as shows
use Rattle.plan_kit.specs.declared.columns.Column.{Column}
use Rattle.plan_kit.specs.declared.domains.DomainPlan.{DomainPlan}
use Rattle.plan_kit.specs.declared.domains.DomainPlan.TheVariants as plan
use Rattle.plan_kit.specs.declared.grids.FacetField.{FacetField}
use Rattle.plan_kit.specs.declared.grids.FacetPlan.{FacetPlan}
use Rattle.plan_kit.specs.declared.grids.GridPlan.{GridPlan}
use Rattle.plan_kit.specs.declared.orders.CellOrder.{CellOrder}
use Rattle.plan_kit.specs.declared.orders.CellOrder.TheVariants as stands
use Rattle.plan_kit.specs.declared.orders.RowsOrder.{RowsOrder}
use Rattle.plan_kit.specs.declared.scales.ScalePlan.{ScalePlan}
use Rattle.plan_kit.specs.Among.{is_among}
use Rattle.vega_assemble.specs.Names.{unit_name, cells_name, cell_column}
use Rattle.vega_assemble.specs.Ranked.{cell_formula, rank_formula, codes_lists, column_steps, ranks_list}
use Rattle.vega_assemble.specs.Ranks.{listed_rank}
use Rattle.vega_assemble.specs.Sources.{list_made}

-- ---- columns

-- the list of a column, with more behind its cell
abbrev pub column_list : List ℕ → ℕ → List Transform → ℕ × Column → DataSet
column_list stem scale more column =
    list_made (cells_name stem scale column.0) (unit_name stem column.1.unit) (cell_formula stem column.1.cell ∷ more)

-- only a cell that is no field wants one
abbrev pub plain_list : List ℕ → ℕ → ℕ → ℕ → CellOf → Option DataSet
plain_list stem scale place unit (shows.Field name) = None
plain_list stem scale place unit (shows.Written c) =
    Some (list_made (cells_name stem scale place) (unit_name stem unit) (cell_formula stem (shows.Written c) ∷ []))
plain_list stem scale place unit (shows.Computed e) =
    Some (list_made (cells_name stem scale place) (unit_name stem unit) (cell_formula stem (shows.Computed e) ∷ []))

abbrev pub list_if_wanted : List ℕ → ℕ → ℕ × Column → Option DataSet
list_if_wanted stem scale column = plain_list stem scale column.0 column.1.unit column.1.cell

abbrev pub plain_lists : List ℕ → ℕ → List Column → List DataSet
plain_lists stem scale columns = filter_map (list_if_wanted stem scale) (enumerate_from 0 columns)

-- the ranks of listed cells
abbrev pub listed_lists : List ℕ → ℕ → List Cell → List Column → List DataSet
listed_lists stem scale cells columns =
    map (column_list stem scale (rank_formula stem (listed_rank (expr.Field (cell_column stem)) cells) ∷ [])) (enumerate_from 0 columns)

-- the names of the fields of the facets round a unit, as far in as one of them
abbrev pub field_names : FacetPlan → List (List ℕ)
field_names f = map (λ (field : FacetField). field.name) f.fields

abbrev pub is_round : ℕ → ℕ → GridPlan → FacetPlan → Bool
is_round unit holder grid f = nat_le grid.number holder && is_among f.units unit

abbrev pub names_if_round : ℕ → ℕ → GridPlan → FacetPlan → List (List ℕ)
names_if_round unit holder grid f = if is_round unit holder grid f then field_names f else []

abbrev pub names_round : ℕ → ℕ → GridPlan → List (List ℕ)
names_round unit holder grid = option_map_or (names_if_round unit holder grid) grid.facet []

abbrev pub names_to : List GridPlan → ℕ → ℕ → List (List ℕ)
names_to grids unit holder = flat_map (names_round unit holder) grids

abbrev pub names_held : List GridPlan → ℕ → Option ℕ → List (List ℕ)
names_held grids unit holder = option_map_or (names_to grids unit) holder []

-- the lists of the columns of an order by rows, their names, and behind them the rows by which cells stand
abbrev pub column_lists : List ℕ → ℕ → List (List ℕ) → RowsOrder → List Column → List DataSet
column_lists stem scale facets by columns = map (column_list stem scale (column_steps stem scale facets by)) (enumerate_from 0 columns)

abbrev pub name_of_column : List ℕ → ℕ → ℕ × Column → List ℕ
name_of_column stem scale column = cells_name stem scale column.0

abbrev pub names_of_columns : List ℕ → ℕ → List Column → List (List ℕ)
names_of_columns stem scale columns = map (name_of_column stem scale) (enumerate_from 0 columns)

abbrev pub ranked_lists : List ℕ → ℕ → List (List ℕ) → RowsOrder → List Column → List DataSet
ranked_lists stem scale facets by columns =
    column_lists stem scale facets by columns ++ ranks_list stem scale facets (names_of_columns stem scale columns) by ∷ []

abbrev pub lists_in_order : List ℕ → List GridPlan → ℕ → Option ℕ → CellOrder → List Column → List DataSet
lists_in_order stem grids scale holder stands.First columns = plain_lists stem scale columns
lists_in_order stem grids scale holder stands.Up columns = plain_lists stem scale columns
lists_in_order stem grids scale holder stands.Down columns = plain_lists stem scale columns
lists_in_order stem grids scale holder (stands.Listed cells) columns = listed_lists stem scale cells columns
lists_in_order stem grids scale holder (stands.ByRows by) columns = ranked_lists stem scale (names_held grids by.unit holder) by columns

-- the lists to which the domain of a scale refers and nothing else does
abbrev pub lists_of_domain : List ℕ → List GridPlan → ℕ → Option ℕ → DomainPlan → List DataSet
lists_of_domain stem grids scale holder (plan.Cells cells) = []
lists_of_domain stem grids scale holder (plan.Columns of) = lists_in_order stem grids scale holder of.order of.columns

abbrev pub lists_of_scale : List ℕ → List GridPlan → ℕ × ScalePlan → List DataSet
lists_of_scale stem grids s = lists_of_domain stem grids s.0 s.1.holder s.1.domain

-- those in which the numbers of their cells are looked up
abbrev pub beside_order : List ℕ → List GridPlan → ℕ → Option ℕ → CellOrder → List DataSet
beside_order stem grids scale holder stands.First = []
beside_order stem grids scale holder stands.Up = []
beside_order stem grids scale holder stands.Down = []
beside_order stem grids scale holder (stands.Listed cells) = []
beside_order stem grids scale holder (stands.ByRows by) = codes_lists stem scale (names_held grids by.unit holder) by

abbrev pub beside_domain : List ℕ → List GridPlan → ℕ → Option ℕ → DomainPlan → List DataSet
beside_domain stem grids scale holder (plan.Cells cells) = []
beside_domain stem grids scale holder (plan.Columns of) = beside_order stem grids scale holder of.order

-- all lists that are there for a scale
abbrev pub lists_for_scale : List ℕ → List GridPlan → ℕ × ScalePlan → List DataSet
lists_for_scale stem grids s = beside_domain stem grids s.0 s.1.holder s.1.domain ++ lists_of_scale stem grids s

-- ---- rows before the aggregate

-- whether a domain reads those of a unit
abbrev pub order_begins : ℕ → CellOrder → Bool
order_begins unit stands.First = false
order_begins unit stands.Up = false
order_begins unit stands.Down = false
order_begins unit (stands.Listed cells) = false
order_begins unit (stands.ByRows by) = by.unit == unit

abbrev pub domain_begins : ℕ → DomainPlan → Bool
domain_begins unit (plan.Cells cells) = false
domain_begins unit (plan.Columns of) = order_begins unit of.order
