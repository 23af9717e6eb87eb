use Rattle.std.proofs.Common.{◌≡◌, ◌++◌, drop}
use Rattle.vl_compose.specs.Shown.{unit_shown}
use Rattle.chart_plan.specs.Selections.{names_of_channels}
use Rattle.chart_plan.proofs.kept.names_of_channels.Given as goal

abbrev pub invariant-loop-code : goal.invariant-loop-code
invariant-loop-code l =
    l.out ++ names_of_channels l.interval (unit_shown l.unit) (drop l.code-index l.codes) ≡ names_of_channels l.interval (unit_shown l.unit) l.codes
