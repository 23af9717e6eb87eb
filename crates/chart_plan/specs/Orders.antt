-- In which order the cells of a discrete domain stand: ascending, or as the first unit says whose definition of the channel has a `sort`. Null is
-- the order in which cells first appear; `ascending` and `descending` are by the cells themselves; a list stands as it is, and the rest
-- follows ascending. Other orders are by rows: those of that unit before its aggregate, grouped by the cells that the channel has there. Each
-- group has what an operation gives over a field, and cells of one rank stand ascending. `{field, op}` names both; its operation is `sum` where the
-- unit is stacked, else `min`. `x` and `y` mean the field of that channel, of bins and units of time the start, and its own aggregate, else `sum` where
-- that channel is stacked, else `min`. A channel that itself has an aggregate, or no field, has no groups: its cells stand ascending.
use Rattle.std.specs.Prelude.{ℕ, Bool, true, false, Option, Some, None, List, option_map, is_some, unwrap_or, if◌then◌else◌}
use Rattle.std.specs.Option.{option_and_then, option_map_or}
use Rattle.vl_spec.specs.declared.definitions.Definition.{Definition}
use Rattle.vl_spec.specs.declared.definitions.Definition.TheVariants as definition
use Rattle.vl_spec.specs.declared.orders.FieldSort.{FieldSort}
use Rattle.vl_spec.specs.declared.orders.Order.{Order}
use Rattle.vl_spec.specs.declared.orders.Order.TheVariants as order
use Rattle.vl_spec.specs.declared.orders.Sort.{Sort}
use Rattle.vl_spec.specs.declared.orders.Sort.TheVariants as sort
use Rattle.vl_normalize.specs.declared.codes.TheConstants.{X, Y}
use Rattle.vl_compose.specs.Definitions.{definitions_at}
use Rattle.vl_compose.specs.Units.{UnitAt}
use Rattle.scale_infer.specs.Scales.{first_at}
use Rattle.scale_infer.specs.Types.{is_aggregated}
use Rattle.plan_kit.specs.declared.cells.CellOf.{CellOf}
use Rattle.plan_kit.specs.declared.cells.CellOf.TheVariants as cell_of_row
use Rattle.unit_plan.specs.Cells.{cell_of}
use Rattle.unit_plan.specs.Stacks.{stack_of}
use Rattle.plan_kit.specs.declared.orders.CellOrder.{CellOrder}
use Rattle.plan_kit.specs.declared.orders.CellOrder.TheVariants.{First, Up, Down, Listed, ByRows}
use Rattle.chart_plan.specs.Columns.{stack_in}
use Rattle.guide_infer.specs.First.{first_given}
use Rattle.plan_kit.specs.Among.{is_among}

-- the codes of `sum` and `min`
abbrev pub sum_code : ℕ
sum_code = 4

abbrev pub min_code : ℕ
min_code = 7

-- ---- directions

abbrev pub is_descending : Order → Bool
is_descending order.Ascending = false
is_descending order.Descending = true

-- the order of cells by themselves
abbrev pub by_cells : Order → CellOrder
by_cells order.Ascending = Up
by_cells order.Descending = Down

-- ---- by rows

-- the name of a cell of a row, if it has one
abbrev pub name_of : CellOf → Option (List ℕ)
name_of (cell_of_row.Field name) = Some name
name_of (cell_of_row.Written cell) = None
name_of (cell_of_row.Computed e) = None

-- the field of a definition, as it is written
abbrev pub field_in : Definition → Option (List ℕ)
field_in (definition.Value cell) = None
field_in (definition.Datum d) = None
field_in (definition.Field f) = f.field

-- the same in the rows: of bins and units of time the start
abbrev pub start_in : ℕ → Definition → Option (List ℕ)
start_in channel d = if is_some (field_in d) then name_of (cell_of channel d) else None

-- the cells by which the rows are grouped: none with an aggregate or without a field
abbrev pub group_in : ℕ → Definition → Option (List ℕ)
group_in channel d = if is_aggregated d then None else start_in channel d

-- an order by what an operation gives over a field, of groups by a cell
abbrev pub ranked : ℕ → ℕ → Option (List ℕ) → Bool → List ℕ → CellOrder
ranked unit op field descending cell = ByRows (record { unit = unit; cell = cell; op = op; field = field; descending = descending })

abbrev pub by_rows : ℕ → Option (List ℕ) → ℕ → Option (List ℕ) → Bool → CellOrder
by_rows unit cell op field descending = option_map_or (ranked unit op field descending) cell Up

-- by a field
abbrev pub field_code : UnitAt → FieldSort → ℕ
field_code unit by = unwrap_or by.op (if is_some (stack_of unit) then sum_code else min_code)

abbrev pub falls : Option Order → Bool
falls direction = option_map_or is_descending direction false

abbrev pub by_field : UnitAt → Option (List ℕ) → FieldSort → CellOrder
by_field unit cell by = by_rows unit.number cell (field_code unit by) by.field (falls by.order)

-- by a channel: its operation and its field
abbrev pub plain_code : UnitAt → ℕ → ℕ
plain_code unit channel = if is_some (stack_in channel unit) then sum_code else min_code

abbrev pub operation_in : Definition → Option ℕ
operation_in (definition.Value cell) = None
operation_in (definition.Datum d) = None
operation_in (definition.Field f) = f.aggregate

abbrev pub operand_in : ℕ → Definition → Option (List ℕ)
operand_in channel d = if is_aggregated d then field_in d else start_in channel d

abbrev pub channel_code : UnitAt → ℕ → ℕ
channel_code unit channel = unwrap_or (option_and_then operation_in (first_at unit channel)) (plain_code unit channel)

abbrev pub by_channel : UnitAt → Option (List ℕ) → ℕ → Bool → CellOrder
by_channel unit cell channel descending =
    by_rows unit.number cell (channel_code unit channel) (option_and_then (operand_in channel) (first_at unit channel)) descending

-- ---- by a `sort`

-- the order that a `sort` means in a unit, where groups have this cell
abbrev pub order_by : UnitAt → Option (List ℕ) → Sort → CellOrder
order_by unit cell sort.Null = First
order_by unit cell (sort.Cells direction) = by_cells direction
order_by unit cell (sort.X direction) = by_channel unit cell X (is_descending direction)
order_by unit cell (sort.Y direction) = by_channel unit cell Y (is_descending direction)
order_by unit cell (sort.Listed cells) = Listed cells
order_by unit cell (sort.Field by) = by_field unit cell by

-- the `sort` of a definition
abbrev pub sort_in : Definition → Option Sort
sort_in (definition.Value cell) = None
sort_in (definition.Datum d) = None
sort_in (definition.Field f) = f.sort

-- the order that a definition of a channel means, if it has a `sort`
abbrev pub order_in : UnitAt → ℕ → Definition → Option CellOrder
order_in unit channel d = option_map (order_by unit (group_in channel d)) (sort_in d)

-- that of a unit which shares a scale
abbrev pub unit_order : ℕ → List ℕ → UnitAt → Option CellOrder
unit_order channel sharing unit =
    if is_among sharing unit.number then first_given (order_in unit channel) (definitions_at unit.channels channel) else None

-- the order of the cells of a discrete scale
abbrev pub order_of : ℕ → List UnitAt → List ℕ → CellOrder
order_of channel units sharing = unwrap_or (first_given (unit_order channel sharing) units) Up
