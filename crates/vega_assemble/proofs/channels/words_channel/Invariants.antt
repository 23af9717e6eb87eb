use Rattle.std.proofs.Common.{◌≡◌, ◌++◌, drop, map}
use Rattle.vega_assemble.specs.Channels.{words_way}
use Rattle.vega_assemble.proofs.channels.words_channel.Given as goal

abbrev pub invariant-loop-way : goal.invariant-loop-way
invariant-loop-way l =
    l.values ++ map words_way (drop l.way-index l.ways) ≡ map words_way l.ways
