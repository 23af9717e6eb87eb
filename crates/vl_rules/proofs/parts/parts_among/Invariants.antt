use Rattle.std.proofs.Common.{◌≡◌, ◌++◌, drop, flat_map, map}
use Rattle.vl_rules.specs.Parts.{parts_of}
use Rattle.vl_rules.specs.inner.Shown.{marked_shown, part_shown}
use Rattle.vl_rules.proofs.parts.parts_among.Given as goal

abbrev pub invariant-loop-unit : goal.invariant-loop-unit
invariant-loop-unit l =
    map part_shown l.parts ++ flat_map parts_of (map marked_shown (drop l.unit-index l.units)) ≡ flat_map parts_of (map marked_shown l.units)
