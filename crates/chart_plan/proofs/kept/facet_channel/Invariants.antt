use Rattle.std.proofs.Common.{◌≡◌, drop}
use Rattle.std.specs.Prelude.{option_copied}
use Rattle.std.specs.List.{fold}
use Rattle.vl_compose.specs.Shown.{round_shown}
use Rattle.chart_plan.specs.Selections.{or_further_out, facet_channel}
use Rattle.chart_plan.proofs.kept.facet_channel.Given as goal

abbrev pub invariant-loop-here : goal.invariant-loop-here
invariant-loop-here l =
    fold (or_further_out l.code) (option_copied l.channel) (round_shown (drop l.here-index l.round)) ≡ facet_channel l.code (round_shown l.round)
