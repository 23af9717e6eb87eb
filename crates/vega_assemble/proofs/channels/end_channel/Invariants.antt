use Rattle.std.proofs.Common.{◌≡◌, ◌++◌, drop, map}
use Rattle.vega_assemble.specs.Channels.{spot_way}
use Rattle.vega_assemble.proofs.channels.end_channel.Given as goal

abbrev pub invariant-loop-way : goal.invariant-loop-way
invariant-loop-way l =
    l.values ++ map (spot_way l.stem l.scales l.channel) (drop l.way-index l.ways) ≡ map (spot_way l.stem l.scales l.channel) l.ways
