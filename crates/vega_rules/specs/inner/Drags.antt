-- What decides about drags at once.
use Rattle.std.specs.Prelude.{ℕ, Bool, true, ◌&&◌, Option, Some, None, List, bytes_eq}
use Rattle.vega_parts.specs.declared.part.GivenName.{GivenName}
use Rattle.vega_rules.specs.declared.fault.PlacedFault.{PlacedFault}
use Rattle.spec_schema.specs.Order.{is_before}
use Rattle.vega_rules.specs.inner.Index.{is_inner_scale}

-- a fault at a place would stand before the one so far
abbrev pub is_sooner : Option PlacedFault → List ℕ → Bool
is_sooner None at = true
is_sooner (Some fault) at = is_before at fault.place

-- a group gives this name to a scale
abbrev pub is_inner_of : List ℕ → GivenName → Bool
is_inner_of scale g = is_inner_scale g && bytes_eq scale g.name
