use Rattle.std.proofs.Common.{◌≡◌, ◌==◌, drop}
use Rattle.std.specs.List.{list_any}
use Rattle.vl_compose.specs.Rounds.{ViewAt}
use Rattle.vl_compose.specs.Shown.{round_shown}
use Rattle.chart_plan.proofs.grids.is_below.Given as goal

abbrev pub invariant-loop-here : goal.invariant-loop-here
invariant-loop-here l =
    list_any (λ (v : ViewAt). v.number == l.number) (round_shown (drop l.here-index l.here-items))
    ≡ list_any (λ (v : ViewAt). v.number == l.number) (round_shown l.here-items)
