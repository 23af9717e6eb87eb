use Rattle.std.proofs.Common.{◌≡◌, ◌++◌, drop, map}
use Rattle.vega_assemble.specs.Assembled.{unit_list}
use Rattle.vega_assemble.proofs.assembled.push_units.Given as goal

abbrev pub invariant-loop-unit : goal.invariant-loop-unit
invariant-loop-unit l =
    l.out ++ map (unit_list l.stem) (drop l.unit-index l.units) ≡ l.fn.out ++ map (unit_list l.stem) l.units
