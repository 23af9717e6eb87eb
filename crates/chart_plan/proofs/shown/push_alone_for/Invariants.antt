use Rattle.std.proofs.Common.{◌≡◌, ◌++◌, drop, map}
use Rattle.vl_compose.specs.Shown.{unit_shown}
use Rattle.chart_plan.specs.Shown.{alone_for}
use Rattle.chart_plan.proofs.shown.push_alone_for.Given as goal

abbrev pub invariant-loop-unit : goal.invariant-loop-unit
invariant-loop-unit l =
    l.scales ++ alone_for (map unit_shown (drop l.unit-index l.units)) l.channel ≡ l.fn.scales ++ alone_for (map unit_shown l.units) l.channel
