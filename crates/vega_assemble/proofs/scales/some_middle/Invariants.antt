use Rattle.std.proofs.Common.{◌≡◌, drop}
use Rattle.vega_assemble.specs.Scales.{some_way, is_middle}
use Rattle.vega_assemble.proofs.scales.some_middle.Given as goal

abbrev pub invariant-loop-way : goal.invariant-loop-way
invariant-loop-way l =
    some_way is_middle (drop l.way-index l.ways) ≡ some_way is_middle l.ways
