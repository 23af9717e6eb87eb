use Rattle.std.proofs.Common.{◌≡◌, drop, map}
use Rattle.vl_compose.specs.Shown.{unit_shown}
use Rattle.chart_plan.specs.Scales.{holder_of}
use Rattle.chart_plan.proofs.scales.holder_of.Given as goal

abbrev pub invariant-loop-unit : goal.invariant-loop-unit
invariant-loop-unit l =
    holder_of l.channel (map unit_shown (drop l.unit-index l.units)) l.sharing ≡ holder_of l.channel (map unit_shown l.units) l.sharing
