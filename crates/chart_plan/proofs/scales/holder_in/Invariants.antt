use Rattle.std.proofs.Common.{◌≡◌, drop}
use Rattle.std.specs.List.{fold}
use Rattle.vl_compose.specs.Shown.{round_shown}
use Rattle.chart_plan.specs.Scales.{holder_from, holder_in}
use Rattle.chart_plan.proofs.scales.holder_in.Given as goal

abbrev pub invariant-loop-here : goal.invariant-loop-here
invariant-loop-here l =
    fold (holder_from l.channel) l.holder (round_shown (drop l.here-index l.round)) ≡ holder_in l.channel (round_shown l.round)
