use Rattle.std.proofs.Common.{◌≡◌, ◌++◌, drop, map}
use Rattle.vega_assemble.specs.Keys.{keys_list}
use Rattle.vega_assemble.proofs.keys.push_all_keys.Given as goal

abbrev pub invariant-loop-unit : goal.invariant-loop-unit
invariant-loop-unit l =
    l.out ++ map (keys_list l.stem l.facet l.fields) (drop l.unit-index l.units) ≡ l.fn.out ++ map (keys_list l.stem l.facet l.fields) l.units
