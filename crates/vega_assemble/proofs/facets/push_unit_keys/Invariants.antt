use Rattle.std.proofs.Common.{◌≡◌, ◌++◌, drop, map}
use Rattle.vega_assemble.specs.Names.{keys_name}
use Rattle.vega_assemble.proofs.facets.push_unit_keys.Given as goal

abbrev pub invariant-loop-unit : goal.invariant-loop-unit
invariant-loop-unit l =
    l.out ++ map (keys_name l.stem l.number) (drop l.unit-index l.units) ≡ l.fn.out ++ map (keys_name l.stem l.number) l.units
