-- The definitions of a channel that bear a scale.
use Rattle.std.specs.Prelude.{ℕ, ◌==◌, Bool, true, false, ◌||◌, ◌&&◌, not, List, [], ◌∷◌, ◌++◌, flat_map, is_none, is_some, unwrap_or, if◌then◌else◌}
use Rattle.std.specs.Option.{option_map_or}
use Rattle.vl_spec.specs.declared.channels.Channel.{Channel, Channel-F, fold-Channel}
use Rattle.vl_spec.specs.declared.channels.Condition.{Condition-F}
use Rattle.vl_spec.specs.declared.channels.Conditions.{Conditions-F}
use Rattle.vl_spec.specs.declared.channels.Conditions.TheOpen as level
use Rattle.vl_spec.specs.declared.channels.ChannelOf.{ChannelOf}
use Rattle.vl_spec.specs.declared.definitions.Definition.{Definition}
use Rattle.vl_spec.specs.declared.definitions.Definition.TheVariants as definition
use Rattle.vl_spec.specs.declared.definitions.FieldDefinition.{FieldDefinition}
use Rattle.vl_normalize.specs.Channels.{shown}
use Rattle.vl_normalize.specs.declared.codes.TheConstants.{X, Y, COLOR, OPACITY, SIZE, SHAPE}

-- whether a channel of this code has a scale of its own; what `x2` and `y2` show stands on the scales of `x` and `y`
abbrev pub has_own_scale : ℕ → Bool
has_own_scale code = code == X || code == Y || code == COLOR || code == OPACITY || code == SIZE || code == SHAPE

-- whether a definition by a field has no member
unfoldable pub is_bare : FieldDefinition → Bool
is_bare f =
    is_none f.field && is_none f.type_ && is_none f.aggregate && is_none f.bin && is_none f.time_unit && is_none f.title && is_none f.sort
    && is_none f.scale && is_none f.stack && is_none f.axis && is_none f.legend && is_none f.header && is_none f.format && is_none f.columns
    && is_none f.spacing

-- Whether a definition bears a scale: a value that is written doesn't, a cell that is written does, and so does a field, but for one without any
-- member beside a condition, which says nothing by itself.
abbrev pub bears : Definition → Bool → Bool
bears (definition.Value cell) conditional = false
bears (definition.Datum of) conditional = true
bears (definition.Field of) conditional = not (conditional && is_bare of)

-- a definition, if it bears a scale
abbrev pub own_definition : Definition → Bool → List Definition
own_definition d conditional = if bears d conditional then d ∷ [] else []

-- a channel's own, and behind it those of its conditions, in the order of the text
abbrev pub channel_here : Channel-F (List Definition) (List Definition) (List Definition) → List Definition
channel_here c = own_definition c.definition (is_some c.condition) ++ unwrap_or c.condition []

abbrev pub conditions_here : Conditions-F (List Definition) (List Definition) (List Definition) → List Definition
conditions_here (level.One condition) = condition
conditions_here (level.Several conditions) = flat_map (λ ds. ds) conditions

abbrev pub condition_here : Condition-F (List Definition) (List Definition) (List Definition) → List Definition
condition_here c = c.shows

-- those of a channel that bear a scale
abbrev pub definitions_of : Channel → List Definition
definitions_of = fold-Channel (List Definition) (List Definition) (List Definition) conditions_here channel_here condition_here

-- those of the channel of a code among some channels, none where it has no scale of its own
abbrev pub definitions_at : List ChannelOf → ℕ → List Definition
definitions_at channels code = if has_own_scale code then option_map_or definitions_of (shown channels code) [] else []
