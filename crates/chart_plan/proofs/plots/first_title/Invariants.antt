use Rattle.std.proofs.Common.{◌≡◌, drop}
use Rattle.vl_compose.specs.Shown.{round_shown}
use Rattle.guide_infer.specs.First.{first_given}
use Rattle.chart_plan.specs.Plots.{title_at}
use Rattle.chart_plan.proofs.plots.first_title.Given as goal

abbrev pub invariant-loop-here : goal.invariant-loop-here
invariant-loop-here l =
    first_given (title_at l.plot) (round_shown (drop l.here-index l.round)) ≡ first_given (title_at l.plot) (round_shown l.round)
