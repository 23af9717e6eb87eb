-- Which cells count for the domain of a scale: unit after unit, and in a unit definition after definition, the cells of each row. A definition
-- shows its cell: a field's, or what is made of it, which of bins and units of time is the start; a cell that is written is one that each row has. On a
-- continuous scale the ends of bins count too. Where a unit stacks the channel, the two ends of the stack stand in place of the cells that it
-- stacks. What x2 shows counts for x behind x itself, and what y2 shows for y.
use Rattle.std.specs.Prelude.{ℕ, ◌==◌, Bool, Option, Some, None, List, [], ◌∷◌, ◌++◌, flat_map, map, if◌then◌else◌, option_map, option_to_list}
use Rattle.std.specs.Option.{option_and_then, option_map_or}
use Rattle.vl_spec.specs.declared.channels.ChannelOf.{ChannelOf}
use Rattle.vl_normalize.specs.declared.codes.TheConstants.{X, Y, X2, Y2}
use Rattle.vl_normalize.specs.Channels.{shown}
use Rattle.vl_spec.specs.declared.definitions.Definition.{Definition}
use Rattle.vl_compose.specs.Definitions.{definitions_at, definitions_of}
use Rattle.vl_compose.specs.Units.{UnitAt}
use Rattle.scale_infer.specs.Types.{is_binned}
use Rattle.plan_kit.specs.declared.cells.CellOf.{CellOf}
use Rattle.plan_kit.specs.declared.cells.CellOf.TheVariants.{Field}
use Rattle.unit_plan.specs.declared.stacks.Stacked.{Stacked}
use Rattle.unit_plan.specs.Cells.{cell_of, end_of}
use Rattle.unit_plan.specs.Ends.{shows_stack}
use Rattle.unit_plan.specs.Stacks.{stack_of}
use Rattle.plan_kit.specs.declared.columns.Column.{Column}
use Rattle.guide_infer.specs.Axes.{is_continuous}
use Rattle.plan_kit.specs.Among.{is_among}

-- the cell of a definition; on a continuous scale the end of its bin too
abbrev pub bin_end : ℕ → Definition → Option (List ℕ)
bin_end channel d = if is_binned d then end_of channel d else None

-- the cell of a name, if there is one
abbrev pub field_cells : Option (List ℕ) → List CellOf
field_cells name = option_to_list (option_map Field name)

abbrev pub end_cells : Bool → ℕ → Definition → List CellOf
end_cells continuous channel d = if continuous then field_cells (bin_end channel d) else []

abbrev pub cells_of : Bool → ℕ → Definition → List CellOf
cells_of continuous channel d = cell_of channel d ∷ end_cells continuous channel d

-- the two ends of a stack
abbrev pub stack_cells : Stacked → List CellOf
stack_cells stack = Field stack.start ∷ Field stack.end ∷ []

-- the cells of a definition where this is stacked
abbrev pub stacked_cells : Bool → ℕ → Stacked → Definition → List CellOf
stacked_cells continuous channel stack d = if shows_stack stack d then stack_cells stack else cells_of continuous channel d

abbrev pub cells_in : Bool → ℕ → Option Stacked → Definition → List CellOf
cells_in continuous channel None d = cells_of continuous channel d
cells_in continuous channel (Some stack) d = stacked_cells continuous channel stack d

-- the cells of a channel's definitions
abbrev pub own_cells : Bool → ℕ → Option Stacked → List Definition → List CellOf
own_cells continuous channel stack definitions = flat_map (cells_in continuous channel stack) definitions

-- the channel of the second end
abbrev pub second_of : ℕ → Option ℕ
second_of channel = if channel == X then Some X2 else (if channel == Y then Some Y2 else None)

-- what it shows among some channels: its own definition and those of its conditions that bear a cell
abbrev pub seconds_at : List ChannelOf → ℕ → List Definition
seconds_at channels code = option_map_or definitions_of (shown channels code) []

abbrev pub cells_at : List ChannelOf → ℕ → List CellOf
cells_at channels code = map (cell_of code) (seconds_at channels code)

abbrev pub second_cells : ℕ → UnitAt → List CellOf
second_cells channel unit = option_map_or (cells_at unit.channels) (second_of channel) []

-- the stack of a unit, if it is one of this channel
abbrev pub of_channel : ℕ → Stacked → Option Stacked
of_channel channel stack = if stack.channel == channel then Some stack else None

abbrev pub stack_in : ℕ → UnitAt → Option Stacked
stack_in channel unit = option_and_then (of_channel channel) (stack_of unit)

-- the cells of a unit in a channel
abbrev pub unit_cells : Bool → ℕ → UnitAt → List CellOf
unit_cells continuous channel unit =
    own_cells continuous channel (stack_in channel unit) (definitions_at unit.channels channel) ++ second_cells channel unit

-- the same as columns of the unit's rows
abbrev pub column : ℕ → CellOf → Column
column unit cell = record { unit = unit; cell = cell }

abbrev pub unit_columns : Bool → ℕ → UnitAt → List Column
unit_columns continuous channel unit = map (column unit.number) (unit_cells continuous channel unit)

-- the columns of the units that share a scale
abbrev pub columns_in : Bool → ℕ → List ℕ → UnitAt → List Column
columns_in continuous channel sharing unit = if is_among sharing unit.number then unit_columns continuous channel unit else []

abbrev pub columns_of : ℕ → ℕ → List UnitAt → List ℕ → List Column
columns_of channel kind units sharing = flat_map (columns_in (is_continuous kind) channel sharing) units
