use Rattle.std.proofs.Common.{◌≡◌, drop}
use Rattle.std.specs.List.{fold}
use Rattle.chart_plan.specs.Plots.{with_number}
use Rattle.chart_plan.specs.Selections.{channels_once}
use Rattle.chart_plan.proofs.drags.channels_once.Given as goal

abbrev pub invariant-loop-channel : goal.invariant-loop-channel
invariant-loop-channel l = fold with_number l.once (drop l.channel-index l.channels) ≡ channels_once l.channels
