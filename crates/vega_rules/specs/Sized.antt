-- Scales whose range is the size of a plot, where this has no meaning.
use Rattle.std.specs.Prelude.{Bool, true, false, ◌&&◌, Option, Some, None, List, [], flat_map}
use Rattle.spec_schema.specs.declared.spec_error.SpecKind.TheVariants.{Unsupported}
use Rattle.vega_parts.specs.declared.part.Part.{Part}
use Rattle.vega_parts.specs.declared.part.Part.TheVariants as part
use Rattle.vega_parts.specs.declared.part.GivenName.{GivenName}
use Rattle.vega_parts.specs.declared.part.ScaleTraits.{ScaleTraits}
use Rattle.vega_parts.specs.declared.part.RangeKind.{RangeKind}
use Rattle.vega_parts.specs.declared.part.RangeKind.TheVariants as range
use Rattle.vega_parts.specs.declared.part.UsedName.{UsedName}
use Rattle.vega_parts.specs.declared.part.Used.{Used}
use Rattle.vega_parts.specs.declared.part.Used.TheVariants as used
use Rattle.vega_rules.specs.declared.fault.PlacedFault.{PlacedFault}
use Rattle.vega_rules.specs.Faults.{fault_if}
use Rattle.vega_rules.specs.Resolved.{resolved_use}

-- a use for which the size of a plot makes no sense as the range
abbrev pub lacks_size : Used → Bool
lacks_size used.Source = false
lacks_size used.From = false
lacks_size used.MarkRows = false
lacks_size used.FacetRows = false
lacks_size used.Domain = false
lacks_size used.Signal = false
lacks_size used.Store = false
lacks_size used.Scale = false
lacks_size used.SizedScale = true
lacks_size used.MarkBelow = false

-- the range is the width or the height of the plot
abbrev pub is_size : RangeKind → Bool
is_size range.Width = true
is_size range.Height = true
is_size range.Ramp = false
is_size range.Other = false

-- the scale has such a range
abbrev pub sized_traits : Option ScaleTraits → Bool
sized_traits None = false
sized_traits (Some traits) = is_size traits.range

-- the name is that of a scale with such a range
abbrev pub names_size : Option GivenName → Bool
names_size None = false
names_size (Some name) = sized_traits name.scale

-- the used name means one
abbrev pub is_sized : List Part → UsedName → Bool
is_sized parts u = lacks_size u.kind && names_size (resolved_use parts u)

-- the fault of a part
abbrev pub sized_by : List Part → Part → List PlacedFault
sized_by parts (part.Used u) = fault_if (is_sized parts u) Unsupported u.at
sized_by parts other = []

-- the uses of such scales
abbrev pub sized : List Part → List PlacedFault
sized parts = flat_map (sized_by parts) parts
