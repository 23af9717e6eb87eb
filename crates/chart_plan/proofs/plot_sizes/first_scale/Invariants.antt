use Rattle.std.proofs.Common.{◌≡◌, drop, map}
use Rattle.vl_compose.specs.Shown.{unit_shown}
use Rattle.guide_infer.specs.First.{first_given}
use Rattle.chart_plan.specs.Plots.{scale_in_plot}
use Rattle.chart_plan.proofs.plot_sizes.first_scale.Given as goal

abbrev pub invariant-loop-unit : goal.invariant-loop-unit
invariant-loop-unit l =
    first_given (scale_in_plot l.channel l.plot l.scales) (map unit_shown (drop l.unit-index l.units))
    ≡ first_given (scale_in_plot l.channel l.plot l.scales) (map unit_shown l.units)
