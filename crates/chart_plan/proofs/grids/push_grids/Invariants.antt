use Rattle.std.proofs.Common.{◌≡◌, drop, map}
use Rattle.std.specs.List.{fold}
use Rattle.vl_compose.specs.Shown.{round_shown, unit_shown}
use Rattle.chart_plan.specs.Grids.{with_grid}
use Rattle.chart_plan.proofs.grids.push_grids.Given as goal

abbrev pub invariant-loop-here : goal.invariant-loop-here
invariant-loop-here l =
    fold (with_grid (map unit_shown l.units)) l.grids (round_shown (drop l.here-index l.round))
    ≡ fold (with_grid (map unit_shown l.units)) l.fn.grids (round_shown l.round)
