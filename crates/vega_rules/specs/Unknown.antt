-- Names that nothing gives.
use Rattle.std.specs.Prelude.{Bool, ◌&&◌, is_some, is_none, List, [], flat_map}
use Rattle.spec_schema.specs.declared.spec_error.SpecKind.TheVariants.{Wrong}
use Rattle.vega_parts.specs.declared.part.Part.{Part}
use Rattle.vega_parts.specs.declared.part.Part.TheVariants as part
use Rattle.vega_parts.specs.declared.part.UsedName.{UsedName}
use Rattle.vega_rules.specs.declared.fault.PlacedFault.{PlacedFault}
use Rattle.vega_rules.specs.Faults.{fault_if}
use Rattle.vega_rules.specs.Resolved.{giver, resolved_use}

-- the used name is looked up in the objects, and none of them has it
abbrev pub is_unknown : List Part → UsedName → Bool
is_unknown parts u = is_some (giver u.kind) && is_none (resolved_use parts u)

-- the fault of a part
abbrev pub unknown_by : List Part → Part → List PlacedFault
unknown_by parts (part.Used u) = fault_if (is_unknown parts u) Wrong u.at
unknown_by parts other = []

-- the names that neither the object nor those round it have
abbrev pub unknown : List Part → List PlacedFault
unknown parts = flat_map (unknown_by parts) parts
