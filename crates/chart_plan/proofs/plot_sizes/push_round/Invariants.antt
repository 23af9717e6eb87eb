use Rattle.std.proofs.Common.{◌≡◌, ◌++◌, drop}
use Rattle.std.specs.List.{filter_map}
use Rattle.vl_compose.specs.Shown.{round_shown}
use Rattle.chart_plan.specs.Plots.{size_at}
use Rattle.chart_plan.proofs.plot_sizes.push_round.Given as goal

abbrev pub invariant-loop-here : goal.invariant-loop-here
invariant-loop-here l =
    l.sizes ++ filter_map (size_at l.channel l.plot) (round_shown (drop l.here-index l.round))
    ≡ l.fn.sizes ++ filter_map (size_at l.channel l.plot) (round_shown l.round)
