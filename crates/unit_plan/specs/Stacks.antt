-- Stacks of an encoding: of the measure alone, by its own `stack`. Null and false are no stack, true is `zero`. Where nothing is said, a quantitative
-- measure of a bar or an area is stacked from zero where there is an unaggregated field of color, opacity, shape or detail. Rows make a stack
-- with the same cell of the dimension and of the facets; within one they stand by those fields, descending. A measure without a name for its cells isn't
-- stacked.
use Rattle.std.specs.Prelude.{ℕ, ◌==◌, ◌&&◌, Bool, true, false, Option, Some, None, List, [], ◌∷◌, ◌++◌, flat_map, map, is_some, if◌then◌else◌}
use Rattle.std.specs.Option.{option_map, option_map_or, option_and_then}
use Rattle.plain_rows.specs.declared.transforms.SortBy.{SortBy}
use Rattle.plain_rows.specs.declared.transforms.StackOf.{StackOf}
use Rattle.vl_normalize.specs.declared.codes.TheConstants.{COLOR, OPACITY, SHAPE, DETAIL}
use Rattle.vl_normalize.specs.Marks.{mark_type_of}
use Rattle.vl_spec.specs.declared.definitions.Definition.{Definition}
use Rattle.vl_spec.specs.declared.definitions.FieldDefinition.{FieldDefinition}
use Rattle.vl_spec.specs.declared.definitions.Stacking.{Stacking}
use Rattle.vl_spec.specs.declared.definitions.Stacking.TheVariants as stacking
use Rattle.vl_spec.specs.declared.marks.Mark.{Mark}
use Rattle.vl_spec.specs.declared.marks.MarkType.{MarkType}
use Rattle.vl_spec.specs.declared.marks.MarkType.TheVariants as mark_type
use Rattle.vl_spec.specs.declared.orders.Offset.{Offset}
use Rattle.vl_spec.specs.declared.orders.Offset.TheVariants.{Zero}
use Rattle.vl_compose.specs.Units.{UnitAt}
use Rattle.scale_infer.specs.Scales.{first_at}
use Rattle.scale_infer.specs.Types.{type_of, is_quantitative}
use Rattle.unit_plan.specs.declared.stacks.Stacked.{Stacked}
use Rattle.plan_kit.specs.declared.steps.Step.{Step}
use Rattle.plan_kit.specs.declared.steps.Step.TheVariants as step
use Rattle.unit_plan.specs.Groups.{name_list}
use Rattle.unit_plan.specs.Measures.{measure_of, dimension_of}
use Rattle.cell_names.specs.Names.{name_of, stack_start, stack_end}
use Rattle.unit_plan.specs.Shows.{ShownAt, own_shows, facet_shows, field_in}
use Rattle.unit_plan.specs.Transforms.{offset_of}

-- the name of an unaggregated field
abbrev pub plain_field : ℕ → FieldDefinition → List (List ℕ)
plain_field channel d = if is_some d.aggregate then [] else name_list (name_of channel d)

-- that of what is shown
abbrev pub plain_in : ShownAt → List (List ℕ)
plain_in s = option_map_or (plain_field s.channel) (field_in s.shows) []

-- the same of the channel of a code, where it is that
abbrev pub plain_at : ℕ → ShownAt → List (List ℕ)
plain_at code s = if s.channel == code then plain_in s else []

-- the channels whose fields tell series apart
abbrev pub series_channels : List ℕ
series_channels = COLOR ∷ OPACITY ∷ SHAPE ∷ DETAIL ∷ []

-- the unaggregated fields of color, opacity, shape and detail
abbrev pub series_of : UnitAt → List (List ℕ)
series_of unit = flat_map (λ code. flat_map (plain_at code) (own_shows unit)) series_channels

-- from zero, or not at all
abbrev pub zero_if : Bool → Option Offset
zero_if is = if is then Some Zero else None

-- what is said of a stack
abbrev pub offset_said : Stacking → Option Offset
offset_said stacking.Null = None
offset_said (stacking.Flag flag) = zero_if flag
offset_said (stacking.Offset offset) = Some offset

-- whether a mark is stacked by itself
abbrev pub stacks : MarkType → Bool
stacks mark_type.Bar = true
stacks mark_type.Rect = false
stacks mark_type.Point = false
stacks mark_type.Circle = false
stacks mark_type.Square = false
stacks mark_type.Line = false
stacks mark_type.Area = true
stacks mark_type.Tick = false
stacks mark_type.Rule = false
stacks mark_type.Text = false

abbrev pub is_stacker : Option Mark → Bool
is_stacker mark = option_map_or (λ (m : Mark). stacks (mark_type_of m)) mark false

-- whether there is a name among some
abbrev pub are_some : List (List ℕ) → Bool
are_some [] = false
are_some (name ∷ others) = true

-- whether a mark is stacked over such a measure where these tell series apart
abbrev pub stacks_over : Option Mark → Definition → List (List ℕ) → Bool
stacks_over mark measure series = is_stacker mark && is_quantitative (type_of measure) && are_some series

-- where a stack begins that nothing is said of
abbrev pub default_offset : UnitAt → Definition → Option Offset
default_offset unit measure = zero_if (stacks_over unit.mark measure (series_of unit))

-- where the stack of a measure begins, if it is stacked
abbrev pub stack_offset : UnitAt → Definition → FieldDefinition → Option Offset
stack_offset unit measure d = option_map_or offset_said d.stack (default_offset unit measure)

-- the name of the cells that a definition shows
abbrev pub name_in : ℕ → Definition → Option (List ℕ)
name_in channel d = option_and_then (name_of channel) (field_in d)

-- the names of the cells of the dimension, and of the facets
abbrev pub dimension_names : UnitAt → List (List ℕ)
dimension_names unit = name_list (option_and_then (name_in (dimension_of unit)) (first_at unit (dimension_of unit)))

abbrev pub facet_names : UnitAt → List (List ℕ)
facet_names unit = flat_map (λ (s : ShownAt). name_list (name_in s.channel s.shows)) (facet_shows unit)

abbrev pub downwards : List ℕ → SortBy
downwards field = record { field = field; descending = true }

-- a stack of the cells of a name, from here on
abbrev pub stack_with : UnitAt → List ℕ → Offset → StackOf
stack_with unit name offset = record {
  field = name;
  groupby = dimension_names unit ++ facet_names unit;
  sort = map downwards (series_of unit);
  offset = offset_of offset;
  out = stack_start name;
  out_end = stack_end name;
}

-- the stack of a measure that a field shows
abbrev pub stack_by : UnitAt → Definition → FieldDefinition → Option StackOf
stack_by unit measure d =
    option_and_then (λ name. option_map (stack_with unit name) (stack_offset unit measure d)) (name_of (measure_of unit) d)

abbrev pub stack_at : UnitAt → Option Definition → Option StackOf
stack_at unit None = None
stack_at unit (Some measure) = option_and_then (stack_by unit measure) (field_in measure)

-- the stack of a unit
abbrev pub stack_settings_of : UnitAt → Option StackOf
stack_settings_of unit = stack_at unit (first_at unit (measure_of unit))

-- the measure that it stacks: its channel, the name of its cells, and those of where they begin and end
abbrev pub stacked_by : ℕ → StackOf → Stacked
stacked_by channel s = record { channel = channel; name = s.field; start = s.out; end = s.out_end }

abbrev pub stack_of : UnitAt → Option Stacked
stack_of unit = option_map (stacked_by (measure_of unit)) (stack_settings_of unit)

-- the step that makes it
abbrev pub stack_step : Option StackOf → List Step
stack_step None = []
stack_step (Some s) = step.Stack s ∷ []

abbrev pub stack_steps : UnitAt → List Step
stack_steps unit = stack_step (stack_settings_of unit)
