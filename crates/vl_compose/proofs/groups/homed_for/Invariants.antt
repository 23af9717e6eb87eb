use Rattle.std.proofs.Common.{◌≡◌, ◌++◌, drop, map}
use Rattle.vl_compose.specs.Shown.{unit_shown}
use Rattle.vl_compose.specs.Sharing.{homed_for}
use Rattle.vl_compose.proofs.groups.homed_for.Given as goal

abbrev pub invariant-loop-unit : goal.invariant-loop-unit
invariant-loop-unit l = l.all ++ homed_for l.code (drop l.unit-index (map unit_shown l.units)) ≡ homed_for l.code (map unit_shown l.units)
