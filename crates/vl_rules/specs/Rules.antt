-- All faults that the rules find which look around.
use Rattle.std.specs.Prelude.{Option, List, ◌++◌, flat_map}
use Rattle.json_exact.specs.declared.json.Json.{Json}
use Rattle.spec_schema.specs.declared.fault.Fault.{Fault}
use Rattle.vl_spec.specs.declared.spec.VlSpec.{VlSpec}
use Rattle.vl_names.specs.Names.{name_faults}
use Rattle.vl_trails.specs.declared.fault.RuleFault.{RuleFault}
use Rattle.vl_rules.specs.Folds.{too_many_rows}
use Rattle.vl_rules.specs.Marked.{MarkedAt, judged, marked}
use Rattle.vl_rules.specs.Units.{lone_ends, one_too_many, useless_size, without_data}
use Rattle.vl_rules.specs.Views.{view_faults}

-- those of a unit by itself
abbrev pub faults_of_unit : Json → MarkedAt → List RuleFault
faults_of_unit tree u = without_data tree u ++ (lone_ends tree u ++ (useless_size tree u ++ too_many_rows u))

-- those of the units of a specification, of one too many and of each that is judged, and those of its views
abbrev pub unit_and_view_faults : Json → Option Fault → VlSpec → List RuleFault
unit_and_view_faults tree first s =
    one_too_many (marked s) ++ (flat_map (faults_of_unit tree) (judged s) ++ view_faults tree first s)

-- Those of a specification: of its names, of its units, and of its scales and selections, where this is the first fault of the form.
unfoldable pub rule_faults : Json → Option Fault → VlSpec → List RuleFault
rule_faults tree first s = name_faults tree s ++ unit_and_view_faults tree first s
