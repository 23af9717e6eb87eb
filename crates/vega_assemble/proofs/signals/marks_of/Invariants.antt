use Rattle.std.proofs.Common.{◌≡◌, ◌++◌, drop, map}
use Rattle.vega_assemble.specs.Names.{mark_name}
use Rattle.vega_assemble.proofs.signals.marks_of.Given as goal

abbrev pub invariant-loop-unit : goal.invariant-loop-unit
invariant-loop-unit l =
    l.out ++ map (mark_name l.stem) (drop l.unit-index l.units) ≡ map (mark_name l.stem) l.units
