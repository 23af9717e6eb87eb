use Rattle.std.proofs.Common.{◌≡◌, ◌==◌, drop, map}
use Rattle.std.specs.Prelude.{find}
use Rattle.vl_spec.specs.declared.channels.ChannelOf.{ChannelOf}
use Rattle.chart_plan.proofs.kept.channel_among.Given as goal

abbrev pub invariant-loop-channel : goal.invariant-loop-channel
invariant-loop-channel l =
    find (λ (c : ChannelOf). c.channel == l.code) (map (λ c. c.now) (drop l.channel-index l.channels))
    ≡ find (λ (c : ChannelOf). c.channel == l.code) (map (λ c. c.now) l.channels)
