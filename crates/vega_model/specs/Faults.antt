-- The first fault of a Vega specification.
use Rattle.std.specs.Prelude.{Option, List}
use Rattle.std.specs.Option.{option_map}
use Rattle.json_exact.specs.declared.json.Json.{Json}
use Rattle.spec_schema.specs.declared.fault.Fault.{Fault}
use Rattle.spec_schema.specs.Faults.{faults_in, first}
use Rattle.spec_schema.specs.Order.{earlier}
use Rattle.vega_schema.specs.declared.codes.TheConstants.{TOP}
use Rattle.vega_schema.specs.Schema.{vega_schema}
use Rattle.vega_parts.specs.declared.part.Part.{Part}
use Rattle.vega_parts.specs.Parts.{parts_of}
use Rattle.spec_walk.specs.Paths.{path_of}
use Rattle.vega_rules.specs.declared.fault.PlacedFault.{PlacedFault}
use Rattle.vega_rules.specs.Faults.{sooner, earliest}
use Rattle.vega_rules.specs.Rules.{rule_faults}
use Rattle.vega_rules.specs.Cycles.{first_cycle}

-- the first fault by the table of members
unfoldable pub fault_by_members : Json → Option Fault
fault_by_members tree = first (faults_in vega_schema tree TOP)

-- the parts of a specification, in the order of its text
unfoldable pub gathered : Json → List Part
gathered tree = parts_of tree

-- the earliest fault by the rules over parts, that no signal needs itself among them
unfoldable pub judged : List Part → Option PlacedFault
judged parts = sooner (earliest (rule_faults parts)) (first_cycle parts)

-- a fault at a place, with the path to it
abbrev pub with_path : Json → Option PlacedFault → Option Fault
with_path tree placed =
    option_map (λ (f : PlacedFault). record { place = f.place; path = path_of tree f.place; kind = f.kind }) placed

-- the first fault by the rules that look around
abbrev pub fault_by_rules : Json → Option Fault
fault_by_rules tree = with_path tree (judged (gathered tree))

-- the first fault in the order of the text; at one place, that by the table of members
unfoldable pub first_fault_of : Json → Option Fault
first_fault_of tree = earlier (fault_by_members tree) (fault_by_rules tree)
