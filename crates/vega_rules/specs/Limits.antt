-- How many marks and plots there may be.
use Rattle.std.specs.Prelude.{ℕ, if◌then◌else◌, Option, Some, None, List, ◌++◌, filter_map, slice_get, option_to_list, option_map}
use Rattle.spec_schema.specs.declared.spec_error.SpecKind.TheVariants.{Wrong}
use Rattle.vega_parts.specs.declared.part.Part.{Part}
use Rattle.vega_parts.specs.declared.part.Part.TheVariants as part
use Rattle.vega_rules.specs.declared.fault.PlacedFault.{PlacedFault}
use Rattle.vega_rules.specs.Faults.{fault_at}

-- where a mark stands that is no group
abbrev pub plain_mark : Part → Option (List ℕ)
plain_mark (part.Mark at scope name group) = if group then None else Some at
plain_mark other = None

-- where a plot stands
abbrev pub plot : Part → Option (List ℕ)
plot (part.Plot at) = Some at
plot other = None

-- the one behind 32 others is wrong
abbrev pub one_too_many : List (List ℕ) → List PlacedFault
one_too_many places = option_to_list (option_map (λ at. fault_at Wrong at) (slice_get places 32))

-- the 33rd mark, not counting groups, and the 33rd plot
abbrev pub limits : List Part → List PlacedFault
limits parts = one_too_many (filter_map plain_mark parts) ++ one_too_many (filter_map plot parts)
