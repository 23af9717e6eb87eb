use Rattle.std.proofs.Common.{◌≡◌, ◌++◌, drop, map}
use Rattle.vega_assemble.specs.Keys.{is_found}
use Rattle.vega_assemble.proofs.keys.all_found.Given as goal

abbrev pub invariant-loop-unit : goal.invariant-loop-unit
invariant-loop-unit l =
    l.out ++ map (is_found l.stem l.facet) (drop l.unit-index l.units) ≡ map (is_found l.stem l.facet) l.units
