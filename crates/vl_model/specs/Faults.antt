-- The first fault of a Vega-Lite specification.
use Rattle.std.specs.Prelude.{Option, Some, None, List, [], ◌∷◌}
use Rattle.std.specs.Option.{option_map}
use Rattle.json_exact.specs.declared.json.Json.{Json}
use Rattle.spec_schema.specs.declared.fault.Fault.{Fault}
use Rattle.spec_schema.specs.Faults.{faults_in, first}
use Rattle.spec_schema.specs.Order.{earlier}
use Rattle.spec_walk.specs.Paths.{path_of}
use Rattle.vl_schema.specs.declared.codes.TheConstants.{TOP}
use Rattle.vl_schema.specs.Schema.{vl_schema}
use Rattle.vl_spec.specs.declared.spec.VlSpec.{VlSpec}
use Rattle.vl_building.specs.Spec.{spec_of}
use Rattle.vl_trails.specs.Faults.{earliest_placed}
use Rattle.vl_rules.specs.Rules.{rule_faults}
use Rattle.vl_model.specs.declared.visits.PlacedFault.{PlacedFault}
use Rattle.vl_model.specs.Visits.{text_faults}

-- the first fault by the table of members
unfoldable pub fault_by_members : Json → Option Fault
fault_by_members tree = first (faults_in vl_schema tree TOP)

-- a fault at a place, with the path to it
abbrev pub with_path : Json → Option PlacedFault → Option Fault
with_path tree placed =
    option_map (λ (f : PlacedFault). record { place = f.place; path = path_of tree f.place; kind = f.kind }) placed

-- the first of some faults
abbrev pub first_placed : List PlacedFault → Option PlacedFault
first_placed [] = None
first_placed (fault ∷ others) = Some fault

-- the first fault of a text
abbrev pub fault_by_texts : Json → Option Fault
fault_by_texts tree = with_path tree (first_placed (text_faults tree))

-- the first fault of the form, by the table and of texts: at one place, that by the table before that of a text
abbrev pub fault_by_form : Json → Option Fault
fault_by_form tree = earlier (fault_by_members tree) (fault_by_texts tree)

-- the first fault by the rules that look around, of a tree that says this specification and has this first fault of the form
unfoldable pub fault_by_rules : Json → Option Fault → VlSpec → Option Fault
fault_by_rules tree first spec = earliest_placed tree (rule_faults tree first spec)

-- the first of all: at one place that of the form before that by the rules
abbrev pub or_by_rules : Json → Option Fault → VlSpec → Option Fault
or_by_rules tree first spec = earlier first (fault_by_rules tree first spec)

-- the first fault in the order of the text of a tree that says this specification
abbrev pub fault_beside : Json → VlSpec → Option Fault
fault_beside tree spec = or_by_rules tree (fault_by_form tree) spec

-- the first fault in the order of the text
unfoldable pub first_fault_of : Json → Option Fault
first_fault_of tree = fault_beside tree (spec_of tree)
