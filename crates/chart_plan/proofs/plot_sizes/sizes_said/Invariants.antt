use Rattle.std.proofs.Common.{◌≡◌, ◌++◌, drop, map}
use Rattle.std.specs.List.{flat_map}
use Rattle.vl_compose.specs.Shown.{unit_shown}
use Rattle.chart_plan.specs.Plots.{unit_sizes, sizes_said}
use Rattle.chart_plan.proofs.plot_sizes.sizes_said.Given as goal

abbrev pub invariant-loop-unit : goal.invariant-loop-unit
invariant-loop-unit l =
    l.sizes ++ flat_map (unit_sizes l.channel l.plot) (map unit_shown (drop l.unit-index l.units)) ≡ sizes_said l.channel l.plot (map unit_shown l.units)
