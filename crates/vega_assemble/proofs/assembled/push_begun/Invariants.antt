use Rattle.std.proofs.Common.{◌≡◌, ◌++◌, drop, map}
use Rattle.std.specs.Prelude.{filter}
use Rattle.vega_assemble.specs.Assembled.{begun_list, is_begun}
use Rattle.vega_assemble.proofs.assembled.push_begun.Given as goal

abbrev pub invariant-loop-unit : goal.invariant-loop-unit
invariant-loop-unit l =
    l.out ++ map (begun_list l.stem) (filter (is_begun l.p) (drop l.unit-index l.p.units))
    ≡ l.fn.out ++ map (begun_list l.stem) (filter (is_begun l.p) l.p.units)
