-- Scales that a drag inverts.
use Rattle.std.specs.Prelude.{ℕ, ◌==◌, Bool, true, false, ◌&&◌, ◌||◌, not, if◌then◌else◌, Option, Some, None, List, [], flat_map, filter_map, bytes_eq}
use Rattle.std.specs.List.{list_any, list_all}
use Rattle.spec_schema.specs.declared.spec_error.SpecKind.TheVariants.{Wrong}
use Rattle.vega_parts.specs.declared.part.Part.{Part}
use Rattle.vega_parts.specs.declared.part.Part.TheVariants as part
use Rattle.vega_parts.specs.declared.part.GivenName.{GivenName}
use Rattle.vega_parts.specs.declared.part.Given.TheVariants as given
use Rattle.vega_parts.specs.declared.part.ScaleTraits.{ScaleTraits}
use Rattle.vega_parts.specs.declared.part.ScaleType.{ScaleType}
use Rattle.vega_parts.specs.declared.part.ScaleType.TheVariants as type
use Rattle.vega_parts.specs.declared.part.RangeKind.{RangeKind}
use Rattle.vega_parts.specs.declared.part.RangeKind.TheVariants as range
use Rattle.vega_parts.specs.declared.part.Used.TheVariants as used
use Rattle.vega_rules.specs.declared.fault.PlacedFault.{PlacedFault}
use Rattle.vega_rules.specs.Faults.{fault_if}
use Rattle.vega_rules.specs.Names.{number_of, given_names}
use Rattle.vega_rules.specs.Places.{is_inside}
use Rattle.vega_rules.specs.Resolved.{resolved}

-- a type of scales whose places have an inverse
abbrev pub is_continuous : ScaleType → Bool
is_continuous type.Linear = true
is_continuous type.Time = true
is_continuous type.Band = false
is_continuous type.Point = false
is_continuous type.Ordinal = false
is_continuous type.Other = false

-- the range holds colours
abbrev pub is_ramp : RangeKind → Bool
is_ramp range.Width = false
is_ramp range.Height = false
is_ramp range.Ramp = true
is_ramp range.Other = false

-- a scale with these traits can be inverted
abbrev pub can_invert : Option ScaleTraits → Bool
can_invert None = false
can_invert (Some traits) = is_continuous traits.type_ && not (is_ramp traits.range)

-- the name means such a scale
abbrev pub inverts : Option GivenName → Bool
inverts None = false
inverts (Some name) = can_invert name.scale

-- the names of marks that a signal has include that of the mark; all do where it has none
abbrev pub is_among : Option (List (List ℕ)) → Option (List ℕ) → Bool
is_among None own = true
is_among (Some names) None = false
is_among (Some names) (Some own) = list_any (bytes_eq own) names

-- the object of a mark, no group, that a signal of an object concerns
abbrev pub concerned : List ℕ → Option (List (List ℕ)) → Part → Option (List ℕ)
concerned scope names (part.Mark at object own group) =
    if not group && is_inside scope at && is_among names own then Some object else None
concerned scope names other = None

-- from each of these marks the scale can be inverted
abbrev pub all_invert : List Part → List ℕ → List ℕ → Option (List (List ℕ)) → Bool
all_invert parts scale scope names =
    list_all (λ object. inverts (resolved parts used.Scale object [] scale)) (filter_map (concerned scope names) parts)

-- the traits are those of a scale in a group under an object without a layout
abbrev pub is_in_plot : Option ScaleTraits → Bool
is_in_plot None = false
is_in_plot (Some traits) = traits.in_plot

-- a name is that of such a scale
abbrev pub names_in_plot : List ℕ → GivenName → Bool
names_in_plot scale name = number_of name.kind == number_of given.Scale && is_in_plot name.scale && bytes_eq scale name.name

-- there is one of this name
abbrev pub is_given_in_plot : List Part → List ℕ → Bool
is_given_in_plot parts scale = list_any (names_in_plot scale) (given_names parts)

-- the drag is wrong
abbrev pub fails_drag : List Part → List ℕ → List ℕ → Option (List (List ℕ)) → Bool
fails_drag parts scale scope names = is_given_in_plot parts scale || not (all_invert parts scale scope names)

-- the fault of a part
abbrev pub interval_by : List Part → Part → List PlacedFault
interval_by parts (part.Interval at scope scale names) = fault_if (fails_drag parts scale scope names) Wrong at
interval_by parts other = []

-- the drags over a scale that from a concerned mark isn't linear or time, or has colours as its range, or whose name a group
-- under an object without a layout gives to one of its scales
abbrev pub intervals : List Part → List PlacedFault
intervals parts = flat_map (interval_by parts) parts
