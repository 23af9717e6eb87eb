use Rattle.std.proofs.Common.{◌≡◌, drop, map}
use Rattle.vl_rules.specs.inner.Counted.{trail_behind}
use Rattle.vl_rules.specs.inner.Shown.{marked_shown}
use Rattle.vl_rules.proofs.units.trail_behind.Given as goal

abbrev pub invariant-loop-unit : goal.invariant-loop-unit
invariant-loop-unit l =
    trail_behind (map marked_shown (drop l.unit-index l.units)) l.left ≡ trail_behind (map marked_shown l.units) l.number
