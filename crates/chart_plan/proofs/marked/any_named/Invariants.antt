use Rattle.std.proofs.Common.{◌≡◌, drop}
use Rattle.std.specs.List.{list_any}
use Rattle.vl_compose.specs.Shown.{round_shown}
use Rattle.chart_plan.specs.Selections.{is_named}
use Rattle.chart_plan.proofs.marked.any_named.Given as goal

abbrev pub invariant-loop-here : goal.invariant-loop-here
invariant-loop-here l =
    list_any (is_named l.names) (round_shown (drop l.here-index l.round)) ≡ list_any (is_named l.names) (round_shown l.round)
