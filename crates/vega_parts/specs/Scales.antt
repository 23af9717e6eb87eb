-- What scales, and what uses them, give.
use Rattle.std.specs.Prelude.{ℕ, if◌then◌else◌, Some, List, [], ◌∷◌, ◌++◌, codes}
use Rattle.std.specs.Option.{option_map_or}
use Rattle.std.specs.Str.{bytes_eq}
use Rattle.json_exact.specs.declared.json.Json.{Json}
use Rattle.vega_parts.specs.declared.part.Part.{Part}
use Rattle.vega_parts.specs.declared.part.Part.TheVariants as part
use Rattle.vega_parts.specs.declared.part.Given.TheVariants as give
use Rattle.vega_parts.specs.declared.part.Used.{Used}
use Rattle.vega_parts.specs.declared.part.Used.TheVariants as for_
use Rattle.vega_parts.specs.declared.part.ScaleTraits.{ScaleTraits}
use Rattle.vega_parts.specs.declared.part.ScaleType.{ScaleType}
use Rattle.vega_parts.specs.declared.part.ScaleType.TheVariants as type
use Rattle.vega_parts.specs.declared.part.RangeKind.{RangeKind}
use Rattle.vega_parts.specs.declared.part.RangeKind.TheVariants as range
use Rattle.vega_parts.specs.Members.{text_at}
use Rattle.vega_parts.specs.Trails.{Trail, place_of, child, scope_of, object_round, has_layout, is_plot, is_in_plot}
use Rattle.vega_parts.specs.Names.{used_member}

-- the type of a scale that a text names
abbrev pub type_named : List ℕ → ScaleType
type_named text = if bytes_eq text (codes "linear") then type.Linear
    else (if bytes_eq text (codes "time") then type.Time
    else (if bytes_eq text (codes "band") then type.Band
    else (if bytes_eq text (codes "point") then type.Point
    else (if bytes_eq text (codes "ordinal") then type.Ordinal else type.Other))))

-- the type of a scale
abbrev pub type_of : Json → ScaleType
type_of tree = option_map_or (λ (m : ℕ × List ℕ). type_named m.1) (text_at (codes "type") tree) type.Other

-- the range that a text names
abbrev pub range_named : List ℕ → RangeKind
range_named text = if bytes_eq text (codes "width") then range.Width
    else (if bytes_eq text (codes "height") then range.Height
    else (if bytes_eq text (codes "ramp") then range.Ramp else range.Other))

-- the range of a scale
abbrev pub range_of : Json → RangeKind
range_of tree = option_map_or (λ (m : ℕ × List ℕ). range_named m.1) (text_at (codes "range") tree) range.Other

-- what the rules ask of a scale
abbrev pub traits_of : Trail → Json → ScaleTraits
traits_of trail tree = record { type_ = type_of tree; range = range_of tree; in_plot = is_in_plot (object_round trail) }

-- the name of a scale
abbrev pub scale_name : Trail → Json → ℕ × List ℕ → List Part
scale_name trail tree m = part.Given (record {
  kind = give.Scale;
  scope = scope_of trail;
  of = place_of trail;
  at = child trail m.0;
  name = m.1;
  scale = Some (traits_of trail tree);
}) ∷ []

-- what a scale gives
abbrev pub scale_parts : Trail → Json → List Part
scale_parts trail tree = option_map_or (λ (m : ℕ × List ℕ). scale_name trail tree m) (text_at (codes "name") tree) []

-- a scale in the size of a plot, whose range can't be that size
abbrev pub for_size : Trail → Used
for_size trail = if is_plot (object_round trail) then for_.SizedScale else for_.Scale

-- a scale in a legend of an object with a layout, which has no size
abbrev pub for_legend : Trail → Used
for_legend trail = if has_layout (object_round trail) then for_.SizedScale else for_.Scale

-- two scales of a legend
abbrev pub two_scales : List ℕ → List ℕ → Trail → Json → List Part
two_scales first second trail tree = used_member (for_legend trail) first trail tree ++ used_member (for_legend trail) second trail tree

-- the scales of a legend
abbrev pub legend_parts : Trail → Json → List Part
legend_parts trail tree = two_scales (codes "fill") (codes "opacity") trail tree ++ two_scales (codes "shape") (codes "size") trail tree
