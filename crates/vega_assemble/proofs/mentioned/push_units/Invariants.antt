use Rattle.std.proofs.Common.{◌≡◌, ◌++◌, drop}
use Rattle.std.specs.List.{flat_map}
use Rattle.vega_assemble.specs.Mentioned.{in_unit}
use Rattle.vega_assemble.specs.inner.Lent.{lent}
use Rattle.vega_assemble.proofs.mentioned.push_units.Given as goal

abbrev pub invariant-loop-unit : goal.invariant-loop-unit
invariant-loop-unit l =
    lent l.out ++ flat_map in_unit (drop l.unit-index l.units) ≡ lent l.fn.out ++ flat_map in_unit l.units
