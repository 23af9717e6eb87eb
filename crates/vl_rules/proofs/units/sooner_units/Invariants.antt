use Rattle.std.proofs.Common.{◌≡◌, drop, flat_map, map}
use Rattle.spec_schema.specs.Order.{earlier}
use Rattle.vl_trails.specs.Faults.{earliest_placed}
use Rattle.vl_rules.specs.Rules.{faults_of_unit}
use Rattle.vl_rules.specs.inner.Shown.{marked_shown}
use Rattle.vl_rules.proofs.units.sooner_units.Given as goal

abbrev pub invariant-loop-unit : goal.invariant-loop-unit
invariant-loop-unit l =
    earlier l.so_far (earliest_placed l.tree (flat_map (faults_of_unit l.tree) (map marked_shown (drop l.unit-index l.units))))
    ≡ earlier l.fn.so_far (earliest_placed l.tree (flat_map (faults_of_unit l.tree) (map marked_shown l.units)))
