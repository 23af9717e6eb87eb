use Rattle.std.proofs.Common.{◌≡◌, ◌++◌, drop, map}
use Rattle.std.specs.List.{flat_map}
use Rattle.vl_compose.specs.Shown.{unit_shown}
use Rattle.chart_plan.specs.Plots.{unit_shows, all_shows}
use Rattle.chart_plan.proofs.plot_axes.all_shows.Given as goal

abbrev pub invariant-loop-unit : goal.invariant-loop-unit
invariant-loop-unit l =
    map (λ d. d.now) l.out ++ flat_map (unit_shows l.plot l.scale) (map unit_shown (drop l.unit-index l.units))
    ≡ all_shows l.plot l.scale (map unit_shown l.units)
