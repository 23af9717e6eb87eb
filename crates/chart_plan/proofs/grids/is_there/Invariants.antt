use Rattle.std.proofs.Common.{◌≡◌, drop}
use Rattle.chart_plan.specs.Grids.{is_there}
use Rattle.chart_plan.proofs.grids.is_there.Given as goal

abbrev pub invariant-loop-grid : goal.invariant-loop-grid
invariant-loop-grid l =
    is_there l.number (drop l.grid-index l.grids) ≡ is_there l.number l.grids
