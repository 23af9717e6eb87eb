use Rattle.std.proofs.Common.{◌≡◌, ◌++◌, drop, map}
use Rattle.vega_assemble.specs.Channels.{look_way}
use Rattle.vega_assemble.proofs.channels.look_channel.Given as goal

abbrev pub invariant-loop-way : goal.invariant-loop-way
invariant-loop-way l =
    l.values ++ map (look_way l.stem l.scales) (drop l.way-index l.ways) ≡ map (look_way l.stem l.scales) l.ways
