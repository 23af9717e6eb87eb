use Rattle.std.proofs.Common.{◌≡◌, ◌++◌, drop, map}
use Rattle.vega_assemble.specs.Names.{unit_name}
use Rattle.vega_assemble.proofs.facets.push_unit_names.Given as goal

abbrev pub invariant-loop-unit : goal.invariant-loop-unit
invariant-loop-unit l =
    l.out ++ map (unit_name l.stem) (drop l.unit-index l.units) ≡ l.fn.out ++ map (unit_name l.stem) l.units
