use Rattle.std.proofs.Common.{◌≡◌, ◌++◌, drop}
use Rattle.std.specs.List.{flat_map}
use Rattle.vega_assemble.specs.Keys.{looked_twice}
use Rattle.vega_assemble.proofs.keys.push_all_looked.Given as goal

abbrev pub invariant-loop-unit : goal.invariant-loop-unit
invariant-loop-unit l =
    l.out ++ flat_map (looked_twice l.stem l.facet l.name l.here) (drop l.unit-index l.units)
    ≡ l.fn.out ++ flat_map (looked_twice l.stem l.facet l.name l.here) l.units
