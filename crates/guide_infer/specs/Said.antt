-- What definitions say of axes, legends and titles. An axis or a legend that is null takes its definition out: such a definition doesn't count
-- for it. Of several definitions each member comes from the first that gives it.
use Rattle.std.specs.Prelude.{ℕ, Bool, true, false, Option, None, List, [], ◌∷◌, filter, find, is_some}
use Rattle.std.specs.Option.{option_and_then, option_map_or}
use Rattle.std.specs.List.{filter_map}
use Rattle.vl_spec.specs.declared.definitions.Definition.{Definition}
use Rattle.vl_spec.specs.declared.definitions.Definition.TheVariants as definition
use Rattle.vl_spec.specs.declared.guides.Axis.{Axis}
use Rattle.vl_spec.specs.declared.guides.Legend.{Legend}

-- the member `axis` of a definition, and `legend`, and `title`; the inner option is None for null
abbrev pub axis_member : Definition → Option (Option Axis)
axis_member (definition.Value cell) = None
axis_member (definition.Datum d) = d.axis
axis_member (definition.Field f) = f.axis

abbrev pub legend_member : Definition → Option (Option Legend)
legend_member (definition.Value cell) = None
legend_member (definition.Datum d) = d.legend
legend_member (definition.Field f) = f.legend

abbrev pub title_member : Definition → Option (Option (List ℕ))
title_member (definition.Value cell) = None
title_member (definition.Datum d) = d.title
title_member (definition.Field f) = f.title

-- what it says of an axis, or of a legend, if it says anything
abbrev pub axis_in : Definition → Option Axis
axis_in d = option_and_then (λ (axis : Option Axis). axis) (axis_member d)

abbrev pub legend_in : Definition → Option Legend
legend_in d = option_and_then (λ (legend : Option Legend). legend) (legend_member d)

-- whether it counts for an axis, or for a legend: it does unless that is null
abbrev pub has_axis : Definition → Bool
has_axis d = option_map_or (λ (axis : Option Axis). is_some axis) (axis_member d) true

abbrev pub has_legend : Definition → Bool
has_legend d = option_map_or (λ (legend : Option Legend). is_some legend) (legend_member d) true

-- those that count
abbrev pub with_axes : List Definition → List Definition
with_axes definitions = filter has_axis definitions

abbrev pub with_legends : List Definition → List Definition
with_legends definitions = filter has_legend definitions

-- whether there is no definition
abbrev pub is_bare : List Definition → Bool
is_bare [] = true
is_bare (d ∷ definitions) = false

-- what definitions say of an axis, or of a legend, in their order
abbrev pub axes_said : List Definition → List Axis
axes_said definitions = filter_map axis_in definitions

abbrev pub legends_said : List Definition → List Legend
legends_said definitions = filter_map legend_in definitions

-- the first that shows a field
abbrev pub is_field : Definition → Bool
is_field (definition.Value cell) = false
is_field (definition.Datum d) = false
is_field (definition.Field f) = true

abbrev pub first_field : List Definition → Option Definition
first_field definitions = find is_field definitions
