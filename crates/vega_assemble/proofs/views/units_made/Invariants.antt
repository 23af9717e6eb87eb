use Rattle.std.proofs.Common.{◌≡◌, ◌++◌, drop}
use Rattle.vega_assemble.specs.Made.{rolled}
use Rattle.vega_assemble.specs.Views.{units_made}
use Rattle.vega_assemble.proofs.views.units_made.Given as goal

abbrev pub invariant-loop-unit : goal.invariant-loop-unit
invariant-loop-unit l =
    l.out ++ rolled (units_made l.stem l.p (drop l.unit-index l.units)) ≡ rolled (units_made l.stem l.p l.units)
