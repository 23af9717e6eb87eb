use Rattle.std.proofs.Common.{◌≡◌, drop}
use Rattle.std.specs.Prelude.{◌==◌}
use Rattle.std.specs.List.{list_any}
use Rattle.chart_plan.proofs.drags.has_channel.Given as goal

abbrev pub invariant-loop-one : goal.invariant-loop-one
invariant-loop-one l = list_any (λ m. m == l.channel) (drop l.one-index l.channels) ≡ list_any (λ m. m == l.channel) l.channels
