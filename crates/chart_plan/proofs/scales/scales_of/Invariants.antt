use Rattle.std.proofs.Common.{◌≡◌, ◌++◌, drop, map}
use Rattle.vl_compose.specs.Shown.{unit_shown}
use Rattle.chart_plan.specs.Scales.{scale_of}
use Rattle.chart_plan.proofs.scales.scales_of.Given as goal

abbrev pub invariant-loop-scale : goal.invariant-loop-scale
invariant-loop-scale l =
    l.plans ++ map (scale_of l.params (map unit_shown l.units)) (drop l.scale-index l.scales) ≡ map (scale_of l.params (map unit_shown l.units)) l.scales
