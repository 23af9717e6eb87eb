use Rattle.std.proofs.Common.{◌≡◌, ◌++◌, drop}
use Rattle.vl_compose.specs.Shown.{round_shown}
use Rattle.chart_plan.specs.Plots.{numbers_of}
use Rattle.chart_plan.proofs.plots.numbers_of.Given as goal

abbrev pub invariant-loop-here : goal.invariant-loop-here
invariant-loop-here l =
    l.numbers ++ numbers_of (round_shown (drop l.here-index l.views)) ≡ numbers_of (round_shown l.views)
